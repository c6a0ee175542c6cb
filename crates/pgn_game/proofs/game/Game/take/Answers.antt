use Rattle.pgn_game.proofs.Words.{inl, None, ◌≡◌, ap, arith, kind_of, refl, Event, Kind, Means, GameState, InMovetext, IsTrue, Bool, IsFound, IsPlayed, may_have_movetext, Move, ◌∙◌, rules}
use Rattle.pgn_game.specs.declared.event.Event.TheVariants as events
use Rattle.pgn_game.proofs.ReaderLemmas.{game_alike, reader_fits}
use Rattle.pgn_game.proofs.putting.EventToGame.{is_close, is_comment_close, is_comment_open, is_glyph, is_open, is_word, sound_after, still_sound}
use Rattle.pgn_game.proofs.game.Game.take.Goals as goal

-- a judged token leaves the stage
ready : {old judge : GameState} {k : Kind} {e : Event} {begun : Bool} → Means old k judge e → IsTrue (may_have_movetext old.stage)
    → (IsTrue begun → old.stage ≡ InMovetext) → IsTrue (may_have_movetext judge.stage) × (IsTrue begun → judge.stage ≡ InMovetext)
ready means may is = (rw means.after may, λ begun. ap (λ (r : GameState). r.stage) means.after ∙ is begun)

ready_with : {old judge : GameState} {k : Kind} {e : Event} {begun : Bool} {A : Type 0} → Means old k judge e → IsTrue (may_have_movetext old.stage)
    → (IsTrue begun → old.stage ≡ InMovetext) → A → IsTrue (may_have_movetext judge.stage) × ((IsTrue begun → judge.stage ≡ InMovetext) × A)
ready_with means may is more = let both = ready means may is in (both.0, (both.1, more))

played_of : {old judge : GameState} {k : Kind} {m : Move} {n : _} → Means old k judge (events.Move m n) → IsPlayed judge m
played_of {old} {judge} {k} {m} means =
    rw means.text.levels means.text.leads

found_of : {old judge : GameState} {k : Kind} {m : Move} {n : _} → Means old k judge (events.Move m n) → IsFound judge m n
found_of means = rw means.text.levels means.fits.2

pub accept_entry-requires : goal.accept_entry-requires
accept_entry-requires g c =
    let may = rw (← c.self.view_is) at c.requires.may in
    (search reader_fits, (record { few = may.few; stage = may.stage }, c.requires.token))

pub invariant_of-self : goal.invariant_of-self
invariant_of-self g c = still_sound c.self.invariant refl (c.in-Err.ensures.takes c.self.inside.writer None 0).keeps.profile

pub returns-in-Err : goal.returns-in-Err
returns-in-Err g c =
    let h = c.in-Err.ensures in
    rw (← c.self.view_is)
    (record {
      takes = inl (h.takes c.self.inside.writer _ _, λ text is failed. absurd (cc (h.no_marker, is)));
      silent = record { silent = refl; untouched = λ silent. refl };
    })

pub end_game_at-requires : goal.end_game_at-requires
end_game_at-requires g c = search (rules, game_alike)

pub take_number-requires : goal.take_number-requires
take_number-requires g c =
    (search reader_fits, ready (rw c.in-Ok-Number.field-0-is at c.in-Ok-Number.ensures) (rw (← c.self.view_is) at c.requires.may).stage (rw (← c.self.view_is) at c.requires.begun))

pub returns-in-Ok-Number : goal.returns-in-Ok-Number
returns-in-Ok-Number g c =
    rw (← c.self.view_is)
    (c.take_number.ensures.takes c.self.inside.reader (kind_of c.args.kind) c.args.at events.Number (rw c.in-Ok-Number.field-0-is at c.in-Ok-Number.ensures)
    (rw (← c.self.view_is) at c.requires.may).stage c.self.invariant refl)

pub invariant_of-self-in-Ok-Number : goal.invariant_of-self-in-Ok-Number
invariant_of-self-in-Ok-Number g c =
    sound_after c.take_number.ensures c.self.inside.reader (kind_of c.args.kind) events.Number (rw c.in-Ok-Number.field-0-is at c.in-Ok-Number.ensures)
    (rw (← c.self.view_is) at c.requires.may).stage c.self.invariant refl

pub take_move-requires : goal.take_move-requires
take_move-requires g c =
    let h = rw c.in-Ok-Move.field-0-is at c.in-Ok-Move.ensures in
    (search reader_fits, ready_with h (rw (← c.self.view_is) at c.requires.may).stage (rw (← c.self.view_is) at c.requires.begun) (played_of h, (found_of h, h.fits.1)))

pub returns-in-Ok-Move : goal.returns-in-Ok-Move
returns-in-Ok-Move g c =
    rw (← c.self.view_is)
    (c.take_move.ensures.takes c.self.inside.reader (kind_of c.args.kind) c.args.at (events.Move c.in-Ok-Move.mv c.in-Ok-Move.probes) (rw c.in-Ok-Move.field-0-is at c.in-Ok-Move.ensures)
    (rw (← c.self.view_is) at c.requires.may).stage c.self.invariant refl)

pub invariant_of-self-in-Ok-Move : goal.invariant_of-self-in-Ok-Move
invariant_of-self-in-Ok-Move g c =
    sound_after c.take_move.ensures c.self.inside.reader (kind_of c.args.kind) (events.Move c.in-Ok-Move.mv c.in-Ok-Move.probes) (rw c.in-Ok-Move.field-0-is at c.in-Ok-Move.ensures)
    (rw (← c.self.view_is) at c.requires.may).stage c.self.invariant refl

pub take_glyph-requires : goal.take_glyph-requires
take_glyph-requires g c =
    (search reader_fits, ready (rw c.in-Ok-Glyph.field-0-is at c.in-Ok-Glyph.ensures) (rw (← c.self.view_is) at c.requires.may).stage (rw (← c.self.view_is) at c.requires.begun))

pub returns-in-Ok-Glyph : goal.returns-in-Ok-Glyph
returns-in-Ok-Glyph g c =
    rw (← c.self.view_is)
    (c.take_glyph.ensures.takes c.self.inside.reader (kind_of c.args.kind) c.args.at (events.Glyph c.in-Ok-Glyph.glyph) (rw c.in-Ok-Glyph.field-0-is at c.in-Ok-Glyph.ensures)
    (rw (← c.self.view_is) at c.requires.may).stage c.self.invariant (is_glyph c.in-Ok-Glyph.glyph))

pub invariant_of-self-in-Ok-Glyph : goal.invariant_of-self-in-Ok-Glyph
invariant_of-self-in-Ok-Glyph g c =
    sound_after c.take_glyph.ensures c.self.inside.reader (kind_of c.args.kind) (events.Glyph c.in-Ok-Glyph.glyph) (rw c.in-Ok-Glyph.field-0-is at c.in-Ok-Glyph.ensures)
    (rw (← c.self.view_is) at c.requires.may).stage c.self.invariant (is_glyph c.in-Ok-Glyph.glyph)

pub take_annotation-requires : goal.take_annotation-requires
take_annotation-requires g c =
    (search reader_fits, ready_with (rw c.in-Ok-CommentOpen.field-0-is at c.in-Ok-CommentOpen.ensures) (rw (← c.self.view_is) at c.requires.may).stage (rw (← c.self.view_is) at c.requires.begun) (record { not_empty = omega arith; fits = omega arith }))

pub returns-in-Ok-CommentOpen : goal.returns-in-Ok-CommentOpen
returns-in-Ok-CommentOpen g c =
    rw (← c.self.view_is)
    (c.take_annotation.ensures.takes c.self.inside.reader (kind_of c.args.kind) c.args.at events.CommentOpen (rw c.in-Ok-CommentOpen.field-0-is at c.in-Ok-CommentOpen.ensures)
    (rw (← c.self.view_is) at c.requires.may).stage c.self.invariant is_comment_open)

pub invariant_of-self-in-Ok-CommentOpen : goal.invariant_of-self-in-Ok-CommentOpen
invariant_of-self-in-Ok-CommentOpen g c =
    sound_after c.take_annotation.ensures c.self.inside.reader (kind_of c.args.kind) events.CommentOpen (rw c.in-Ok-CommentOpen.field-0-is at c.in-Ok-CommentOpen.ensures)
    (rw (← c.self.view_is) at c.requires.may).stage c.self.invariant is_comment_open

pub take_annotation-requires-in-Ok-Word : goal.take_annotation-requires-in-Ok-Word
take_annotation-requires-in-Ok-Word g c =
    let h = rw c.in-Ok-Word.field-0-is at c.in-Ok-Word.ensures in
    (search reader_fits, ready_with h (rw (← c.self.view_is) at c.requires.may).stage (rw (← c.self.view_is) at c.requires.begun) h.fits)

pub returns-in-Ok-Word : goal.returns-in-Ok-Word
returns-in-Ok-Word g c =
    rw (← c.self.view_is)
    (c.take_annotation-in-Ok-Word.ensures.takes c.self.inside.reader (kind_of c.args.kind) c.args.at (events.Word c.in-Ok-Word.word) (rw c.in-Ok-Word.field-0-is at c.in-Ok-Word.ensures)
    (rw (← c.self.view_is) at c.requires.may).stage c.self.invariant (is_word c.in-Ok-Word.word))

pub invariant_of-self-in-Ok-Word : goal.invariant_of-self-in-Ok-Word
invariant_of-self-in-Ok-Word g c =
    sound_after c.take_annotation-in-Ok-Word.ensures c.self.inside.reader (kind_of c.args.kind) (events.Word c.in-Ok-Word.word) (rw c.in-Ok-Word.field-0-is at c.in-Ok-Word.ensures)
    (rw (← c.self.view_is) at c.requires.may).stage c.self.invariant (is_word c.in-Ok-Word.word)

pub take_annotation-requires-in-Ok-CommentClose : goal.take_annotation-requires-in-Ok-CommentClose
take_annotation-requires-in-Ok-CommentClose g c =
    (search reader_fits, ready_with (rw c.in-Ok-CommentClose.field-0-is at c.in-Ok-CommentClose.ensures) (rw (← c.self.view_is) at c.requires.may).stage (rw (← c.self.view_is) at c.requires.begun) (record { not_empty = omega arith; fits = omega arith }))

pub returns-in-Ok-CommentClose : goal.returns-in-Ok-CommentClose
returns-in-Ok-CommentClose g c =
    rw (← c.self.view_is)
    (c.take_annotation-in-Ok-CommentClose.ensures.takes c.self.inside.reader (kind_of c.args.kind) c.args.at events.CommentClose (rw c.in-Ok-CommentClose.field-0-is at c.in-Ok-CommentClose.ensures)
    (rw (← c.self.view_is) at c.requires.may).stage c.self.invariant is_comment_close)

pub invariant_of-self-in-Ok-CommentClose : goal.invariant_of-self-in-Ok-CommentClose
invariant_of-self-in-Ok-CommentClose g c =
    sound_after c.take_annotation-in-Ok-CommentClose.ensures c.self.inside.reader (kind_of c.args.kind) events.CommentClose (rw c.in-Ok-CommentClose.field-0-is at c.in-Ok-CommentClose.ensures)
    (rw (← c.self.view_is) at c.requires.may).stage c.self.invariant is_comment_close

pub take_annotation-requires-in-Ok-Open : goal.take_annotation-requires-in-Ok-Open
take_annotation-requires-in-Ok-Open g c =
    (search reader_fits, ready_with (rw c.in-Ok-Open.field-0-is at c.in-Ok-Open.ensures) (rw (← c.self.view_is) at c.requires.may).stage (rw (← c.self.view_is) at c.requires.begun) (record { not_empty = omega arith; fits = omega arith }))

pub returns-in-Ok-Open : goal.returns-in-Ok-Open
returns-in-Ok-Open g c =
    rw (← c.self.view_is)
    (c.take_annotation-in-Ok-Open.ensures.takes c.self.inside.reader (kind_of c.args.kind) c.args.at events.Open (rw c.in-Ok-Open.field-0-is at c.in-Ok-Open.ensures)
    (rw (← c.self.view_is) at c.requires.may).stage c.self.invariant is_open)

pub invariant_of-self-in-Ok-Open : goal.invariant_of-self-in-Ok-Open
invariant_of-self-in-Ok-Open g c =
    sound_after c.take_annotation-in-Ok-Open.ensures c.self.inside.reader (kind_of c.args.kind) events.Open (rw c.in-Ok-Open.field-0-is at c.in-Ok-Open.ensures)
    (rw (← c.self.view_is) at c.requires.may).stage c.self.invariant is_open

pub take_annotation-requires-in-Ok-Close : goal.take_annotation-requires-in-Ok-Close
take_annotation-requires-in-Ok-Close g c =
    (search reader_fits, ready_with (rw c.in-Ok-Close.field-0-is at c.in-Ok-Close.ensures) (rw (← c.self.view_is) at c.requires.may).stage (rw (← c.self.view_is) at c.requires.begun) (record { not_empty = omega arith; fits = omega arith }))

pub returns-in-Ok-Close : goal.returns-in-Ok-Close
returns-in-Ok-Close g c =
    rw (← c.self.view_is)
    (c.take_annotation-in-Ok-Close.ensures.takes c.self.inside.reader (kind_of c.args.kind) c.args.at events.Close (rw c.in-Ok-Close.field-0-is at c.in-Ok-Close.ensures)
    (rw (← c.self.view_is) at c.requires.may).stage c.self.invariant is_close)

pub invariant_of-self-in-Ok-Close : goal.invariant_of-self-in-Ok-Close
invariant_of-self-in-Ok-Close g c =
    sound_after c.take_annotation-in-Ok-Close.ensures c.self.inside.reader (kind_of c.args.kind) events.Close (rw c.in-Ok-Close.field-0-is at c.in-Ok-Close.ensures)
    (rw (← c.self.view_is) at c.requires.may).stage c.self.invariant is_close
