-- From what a token means to what its game answers, once it is written or could not be.
use Rattle.pgn_game.proofs.Words.{Bor, IsEntry, codes, decimal, ◌++◌, Profile, Written, marker_of, TakesMeant, ◌≡◌, ◌||◌, None, Some, Parts, StoredLevels, IsAnnotation, IsWritable, ItemCall, PutsAnnotation, PutsMove, WritesMove, ◌+◌, ◌<◌, ◌≤◌, ℕ, max, Bool, true, false, IsTrue, List, [], ◌∷◌, Option, Result, Ok, Err, inl, inr, refl, sym, ap, subst, ◌∙◌, arith, common_steps, length, Move, Movetext, Kind, Mode, Part, More, Event, InMovetext, Item, going, is_move, is_written, GameState, GameCall, KeepsSilence, LeavesSink, BeginsText, Means, IsOpen, TakesEntry, TakesEntryPlaced, Adds, PutsTokens, PutResult, Plays, Writer, WriteFault, MovesText, after_move_at, after_move_if, counting_probes, device, game_by, is_nothing, items_meant, may_have_movetext, mode_of_written, mode_unless, mode_written, pairs_meant, seen, tokens_if, with_items, writing_of, Device, Reason, rules}
use Rattle.pgn_layout.specs.declared.sink.WriteFault.{WriteFault as Fault}
use Rattle.pgn_game.specs.games.Game.{move}
use Rattle.pgn_game.specs.games.Game as games
use Rattle.pgn_game.specs.steps.ItemResult.{counted_at}
use Rattle.pgn_game.specs.declared.event.Event.TheVariants as events
use Rattle.pgn_game.proofs.putting.ItemToMovetext.{Advances, adds_front, adds_put, annotation_ends, annotation_tokens, goes_on, plays_on}
use Rattle.pgn_game.proofs.putting.ItemToReader.{IsAfterItem, fails_item, gain_is, lines_gain, puts_item, puts_number, to_items, unbegun_part, unwritten}
use Rattle.pgn_game.proofs.putting.TokenAtPlace.{at_keeps}
use Rattle.pgn_layout.proofs.OneWriteMore.{front_of_more}
use Rattle.pgn_game.proofs.stepping.PairsTriedForToken.{CostsToPut, adds_item, adds_move, adds_none}
use Rattle.pgn_game.proofs.stepping.PutToAnswer.{takes_event}

-- the annotations, as they are written
pub is_glyph : (n : ℕ) → IsAnnotation (codes "$" ++ decimal n) (events.Glyph n)
is_glyph n = record { item = games.glyph n; adds = refl; plain = refl; written = λ b p. refl; untried = refl; moves = λ o n m. m }

pub is_comment_open : IsAnnotation (codes "{") events.CommentOpen
is_comment_open = record { item = games.comment_open; adds = refl; plain = refl; written = λ b p. refl; untried = refl; moves = λ o n m. m }

pub is_word : (text : Bor (List ℕ)) → IsAnnotation text.now (events.Word text)
is_word text = record { item = games.word text.now; adds = refl; plain = refl; written = λ b p. refl; untried = refl; moves = λ o n m. m }

pub is_comment_close : IsAnnotation (codes "}") events.CommentClose
is_comment_close = record { item = games.comment_close; adds = refl; plain = refl; written = λ b p. refl; untried = refl; moves = λ o n m. m }

pub is_open : IsAnnotation (codes "(") events.Open
is_open = record { item = games.open_variation; adds = refl; plain = refl; written = λ b p. refl; untried = refl; moves = λ o n m. m }

pub is_close : IsAnnotation (codes ")") events.Close
is_close = record { item = games.close_variation; adds = refl; plain = refl; written = λ b p. refl; untried = refl; moves = λ o n m. m }

-- at most one move more is outside variations
few_counted : (deep : ℕ) → counted_at deep ≤ 1
few_counted deep = grind (arith, common_steps)

few_more : (e : Event) (old new : Movetext) → MovesText e old new → new.plies ≤ old.plies + 1
few_more e old new h = search (rules, few_counted)

pub number_means_same : (e : Event) (old new : Movetext) → e ≡ events.Number → MovesText e old new → new ≡ old
number_means_same e old new is h = search rules

or_elim : (b x : Bool) → (b || x) ≡ elim b [ true ↦ true | false ↦ x ]
or_elim b x = search rules

-- The reader has judged the token, and so moved its levels, before the section is written. That is
-- the same as if it were written before that.
module _ (w : Writer) (old : GameState) (text : Movetext) (n : ℕ) where
  abbrev judged : GameState
  judged = record old { text = text; most_probes = max old.most_probes n }

  abbrev found : GameState
  found = counting_probes (game_by w old) n

  begins_found : {new : GameState} {d : Device} → BeginsText {A = Unit {0}} {E = Fault} (game_by w judged) new (Ok tt) d
      → BeginsText {A = Unit {0}} {E = Fault} found (record found { stage = InMovetext }) (Ok tt) d
  begins_found begins = search rules

  -- the section could not be written
  unbegun : (new : GameState) (more : List Item) (f : Fault) (d : Device) → IsTrue (may_have_movetext old.stage) → text.plies ≤ old.text.plies + 1
      → BeginsText {A = Unit {0}} (game_by w judged) new (Err f) d → PutResult found (IsOpen found) (to_items more) new (Err WriteFault) d
  unbegun new more f d at few begins = grind (arith, common_steps, unwritten, to_items, gain_is, front_of_more, lines_gain)

-- The calls of a game, in turn, of a token that means e: it was judged, the section was begun, and
-- its item, if it has one, was written.
module _ {S : Type 0} (taken : S → Option (List ℕ)) (failures : S → ℕ) (w begun_w : Writer) (old judge begun_r : GameState) (k : Kind) (e : Event)
    (means : Means old k judge e) (at : IsTrue (may_have_movetext old.stage)) (a b : S) where
  abbrev game : GameState
  game = game_by w old

  abbrev start : GameState
  start = counting_probes game (pairs_meant e)

  pub section_fails : (f : Fault)
      → GameCall taken failures (game_by w judge) (game_by begun_w begun_r) a b
      (BeginsText {A = Unit {0}} (game_by w judge) (game_by begun_w begun_r) (Err f))
      → GameCall taken failures game (game_by begun_w begun_r) a b
      (TakesEntry game k (game_by begun_w begun_r) (Err WriteFault))
  section_fails f call =
      let d = seen (is_nothing w.written) (device taken failures a b) in
      let begins = subst (λ (r : GameState). BeginsText {A = Unit {0}} {E = Fault} (game_by w r) (game_by begun_w begun_r) (Err f) d)
      means.after call.takes in
      record {
        takes = takes_event w old judge k e means at (game_by begun_w begun_r) (Err WriteFault) d (pairs_meant e)
            (unbegun w old judge.text (pairs_meant e) (game_by begun_w begun_r) (items_meant e) f d at (few_more e old.text judge.text means.text) begins)
            tt begins.probes
            (λ part is. inr (
              unbegun_part (game_by w (record old { text = judge.text; most_probes = max old.most_probes (pairs_meant e) })) (game_by begun_w begun_r) f d part
                  at begins is.stage,
              refl,
            ));
        silent = record { silent = call.silent.silent; untouched = call.silent.untouched };
      }

  module _ (call : GameCall taken failures (game_by w judge) (game_by begun_w begun_r) a b
      (BeginsText {A = Unit {0}} {E = Fault} (game_by w judge) (game_by begun_w begun_r) (Ok tt))) where
    begins : BeginsText {A = Unit {0}} {E = Fault} start (record start { stage = InMovetext }) (Ok tt)
        (seen (is_nothing w.written) (device taken failures a b))
    begins = search (rules, begins_found)

    -- a number or a period, which adds nothing
    pub number_taken : items_meant e ≡ [] → pairs_meant e ≡ 0 → judge.text ≡ old.text
        → GameCall taken failures game (game_by begun_w begun_r) a b (TakesEntry game k (game_by begun_w begun_r) (Ok More))
    number_taken none untried same =
        let d = seen (is_nothing w.written) (device taken failures a b) in
        let new : game_by begun_w begun_r ≡ record start { stage = InMovetext } = search rules in
        record {
          takes = takes_event w old judge k e means at (game_by begun_w begun_r) (Ok More) d 0
              (rw (none, new) (puts_number start (record start { stage = InMovetext }) d at begins)) tt
              (ap (λ (r : GameState). r.most_probes) new ∙ ap (max old.most_probes) untried)
              (λ part is. rw (none, untried) (adds_none (mode_written game) part));
          silent = record { silent = call.silent.silent; untouched = call.silent.untouched };
        }

    -- The item that it adds was written, or left out, or could not be. `new` is the reader after
    -- that, which may have counted more pairs.
    module _ (new_w : Writer) (new : GameState) (i : Item) (c : S) (more : ℕ) (one : items_meant e ≡ i ∷ [])
        (probed : is_move i ≡ true → 0 < pairs_meant e) (stage : begun_r ≡ record judge { stage = InMovetext })
        (reader : new ≡ record begun_r { most_probes = new.most_probes }) (writing : writing_of new_w ≡ writing_of w)
        (advances : Advances i old.text judge.text) (most : new.most_probes ≡ max old.most_probes more) (rises : pairs_meant e ≤ more)
        (untouched : LeavesSink (is_nothing w.written) b c)
        (tries : (part : Part) → IsOpen game part → CostsToPut (mode_written game) part (going (with_items part (i ∷ []))) (pairs_meant e) more) where
      abbrev goes : GameState
      goes = game_by new_w new

      abbrev writes : Bool
      writes = is_written (mode_written game) (length old.text.levels.around) i

      abbrev second : Device
      second = seen (is_nothing w.written) (device taken failures b c)

      abbrev whole : Device
      whole = seen (is_nothing w.written) (device taken failures a c)

      next : IsAfterItem (record start { stage = InMovetext }) goes
      next = search rules

      abbrev moved : Movetext
      moved = record judge.text { is_after_move = new_w.is_after_move }

      text_is : goes.text ≡ moved
      text_is = ap (λ (r : GameState). (game_by new_w r).text) (reader ∙ ap (λ (r : GameState). record r { most_probes = new.most_probes }) stage)

      silence : KeepsSilence game goes a c
      silence = search rules

      pub item_taken : PutsTokens {A = Unit {0}} {E = Fault} (tokens_if writes game.text i) w.line new_w.line (Ok tt) second
          → new_w.is_after_move ≡ after_move_if writes game.text i
          → GameCall taken failures game goes a c (TakesEntry game k goes (Ok More))
      item_taken puts ends =
          let on : Advances i (record game.text { is_after_move = after_move_if writes game.text i }) moved = search rules in
          let adds : Adds {A = Unit {0}} {E = Fault} (mode_written game) i game.text w.line moved new_w.line (Ok tt) second =
          adds_put (mode_written game) i game.text w.line new_w.line second moved puts on in
          let put : PutResult start (IsOpen start) (to_items (i ∷ [])) goes (Ok More) whole =
          puts_item start (record start { stage = InMovetext }) goes i (taken a) (taken b) (taken c) _ _ _ at begins next
          (λ is. omega (arith, probed is))
          (subst (λ (t : Movetext). Adds {A = Unit {0}} {E = Fault} (mode_written game) i game.text w.line t new_w.line (Ok tt) second) (sym text_is) adds) in
          search (rules, takes_event, to_items, silence)

      pub item_fails : (f : Fault) → PutsTokens {A = Unit {0}} (tokens_if writes game.text i) w.line new_w.line (Err f) second
          → GameCall taken failures game goes a c (TakesEntry game k goes (Err WriteFault))
      item_fails f puts =
          let adds : Adds {A = Unit {0}} {E = Fault} (mode_written game) i game.text w.line moved new_w.line (Err f) second =
          adds_front (mode_written game) i game.text w.line new_w.line second moved f (Err f) puts (few_more e old.text judge.text means.text) refl in
          let put : PutResult start (IsOpen start) (to_items (i ∷ [])) goes (Err WriteFault) whole =
          search (rules, fails_item, begins, next, text_is) in
          record {
            takes = takes_event w old judge k e means at goes (Err WriteFault) whole more
                (subst (λ (items : List Item). PutResult start (IsOpen start) (to_items items) goes (Err WriteFault) whole) (sym one) put) tt most
                (λ part is. inl (rw one (tries part is)));
            silent = silence;
          }

    -- An annotation was written, or left out, or could not be.
    module _ (mode : mode_of_written w.written ≡ mode_unless (is_nothing w.written) old.profile.mode) (stage : begun_r ≡ record judge { stage = InMovetext })
        (writer : begun_w ≡ record w { is_after_move = after_move_at judge.stage w.is_after_move }) (new_w : Writer) (c : S) where
      same_stage : after_move_at judge.stage w.is_after_move ≡ after_move_at old.stage w.is_after_move
      same_stage = ap (λ (r : GameState). after_move_at r.stage w.is_after_move) means.after

      same_most : begun_r.most_probes ≡ max old.most_probes (pairs_meant e)
      same_most = ap (λ (r : GameState). r.most_probes) stage ∙ ap (λ (r : GameState). r.most_probes) means.after

      -- the writer before that is the one before the section, but for its flag
      begun_as : begun_w ≡ record w { is_after_move = after_move_at old.stage w.is_after_move }
      begun_as = writer ∙ ap (λ (b : Bool). record w { is_after_move = b }) same_stage

      still_silent : LeavesSink (is_nothing begun_w.written) b c → LeavesSink (is_nothing w.written) b c
      still_silent = subst (λ (x : Writer). LeavesSink (is_nothing x.written) b c) writer

      module _ (t : List ℕ) (is : IsAnnotation t e) where
        advances : Advances is.item old.text judge.text
        advances = goes_on e is.item old.text judge.text (record { item = is.adds; plain = is.plain }) (is.moves old.text judge.text means.text)

        module _ (r : Result (Unit {0}) Fault) (put : ItemCall begun_w.written taken failures b c (λ by. PutsAnnotation by t begun_w new_w r)) where
          as_before : ItemCall w.written taken failures b c
              (λ by. PutsAnnotation by t (record w { is_after_move = after_move_at old.stage w.is_after_move }) new_w r)
          as_before = subst (λ (x : Writer). ItemCall x.written taken failures b c (λ by. PutsAnnotation by t x new_w r)) begun_as put

          tokens_put : PutsTokens (tokens_if (is_written (mode_written game) (length old.text.levels.around) is.item) game.text is.item) w.line new_w.line r
              (seen (is_nothing w.written) (device taken failures b c))
          tokens_put = search (rules, annotation_tokens)

          flag_after : new_w.is_after_move ≡ after_move_if (is_written (mode_written game) (length old.text.levels.around) is.item) game.text is.item
          flag_after = search (rules, annotation_ends)

          same_writing : writing_of new_w ≡ writing_of w
          same_writing = ap writing_of as_before.writes.writer

          costs : (part : Part) → IsOpen game part
              → CostsToPut (mode_written game) part (going (with_items part (is.item ∷ []))) (pairs_meant e) (pairs_meant e)
          costs part held = rw is.untried (adds_item (mode_written game) is.item part is.plain)

        pub annotation_taken : ItemCall begun_w.written taken failures b c (λ by. PutsAnnotation {A = Unit {0}} {E = Fault} by t begun_w new_w (Ok tt))
            → GameCall taken failures game (game_by new_w begun_r) a c (TakesEntry game k (game_by new_w begun_r) (Ok More))
        annotation_taken put =
            item_taken new_w begun_r is.item c (pairs_meant e) is.adds (λ moves. absurd (cc (is.plain, moves))) stage refl (same_writing (Ok tt) put)
            advances same_most (omega arith) (still_silent put.silent) (costs (Ok tt) put) (tokens_put (Ok tt) put) (flag_after (Ok tt) put)

        pub annotation_fails : (f : Fault) → ItemCall begun_w.written taken failures b c (λ by. PutsAnnotation {A = Unit {0}} {E = Fault} by t begun_w new_w (Err f))
            → GameCall taken failures game (game_by new_w begun_r) a c (TakesEntry game k (game_by new_w begun_r) (Err WriteFault))
        annotation_fails f put =
            item_fails new_w begun_r is.item c (pairs_meant e) is.adds (λ moves. absurd (cc (is.plain, moves))) stage refl (same_writing (Err f) put)
            advances same_most (omega arith) (still_silent put.silent) (costs (Err f) put) f (tokens_put (Err f) put)

      -- So was the move just played.
      module _ (new : GameState) (m : Move) (n : ℕ) (is : e ≡ events.Move m n) where
        played : Plays m old.text judge.text
        played = subst (λ (x : Event). MovesText x old.text judge.text) is means.text

        fits : IsWritable old.text (events.Move m n)
        fits = subst (IsWritable old.text) is means.fits

        counted : pairs_meant e ≡ n
        counted = ap pairs_meant is

        abbrev here : Parts
        here = old.text.levels.current.position

        from_here : begun_r.text.levels.current.before ≡ Some here
        from_here = ap (λ (r : GameState). r.text.levels.current.before) stage ∙ ap (λ (ls : StoredLevels). ls.current.before) played.levels

        same_depth : length begun_r.text.levels.around ≡ length old.text.levels.around
        same_depth = ap (λ (r : GameState). length r.text.levels.around) stage ∙ ap (λ (ls : StoredLevels). length ls.around) played.levels

        module _ (r : Result (Unit {0}) Fault) (put : WritesMove taken failures m n begun_r new begun_w new_w b c r) where
          -- the move was written by the writer before the section, but for its flag
          written_here : PutsMove (mode_written game) (length old.text.levels.around) here m
              (record w { is_after_move = after_move_at old.stage w.is_after_move }) new_w n put.tried r
              (seen (is_nothing w.written) (device taken failures b c))
          written_here =
              subst (λ (by : Option Mode). PutsMove by (length old.text.levels.around) here m
              (record w { is_after_move = after_move_at old.stage w.is_after_move }) new_w n put.tried r
              (seen (is_nothing w.written) (device taken failures b c))) mode
              (subst (λ (deep : ℕ). PutsMove (mode_of_written w.written) deep here m
              (record w { is_after_move = after_move_at old.stage w.is_after_move }) new_w n put.tried r
              (seen (is_nothing w.written) (device taken failures b c))) same_depth
              (subst (λ (x : Writer). PutsMove (mode_of_written x.written) (length begun_r.text.levels.around) here m x new_w n put.tried r
              (seen (is_nothing x.written) (device taken failures b c))) begun_as (put.writes here from_here)))

          counts : new ≡ counting_probes begun_r put.tried
          counts = put.counts (omega (arith, same_most, counted))

          most_is : new.most_probes ≡ max old.most_probes put.tried
          most_is = omega (arith, ap (λ (r : GameState). r.most_probes) counts, same_most, counted, written_here.rises)

          tries_move : (part : Part) → IsOpen game part
              → CostsToPut (mode_written game) part (going (with_items part (move m ∷ []))) (pairs_meant e) put.tried
          tries_move part held = rw counted (adds_move game part m n put.tried held written_here.tried)

          reader_is : new ≡ record begun_r { most_probes = new.most_probes }
          reader_is = counts ∙ ap (λ (n : ℕ). record begun_r { most_probes = n }) (sym (ap (λ (r : GameState). r.most_probes) counts))

        pub move_taken : WritesMove {A = Unit {0}} {E = Fault} taken failures m n begun_r new begun_w new_w b c (Ok tt)
            → GameCall taken failures game (game_by new_w new) a c (TakesEntry game k (game_by new_w new) (Ok More))
        move_taken put =
            let at_here = written_here (Ok tt) put in
            item_taken new_w new (move m) c put.tried (ap items_meant is) (λ moves. rw counted fits.0) stage (reader_is (Ok tt) put)
            (ap writing_of at_here.writer) (plays_on m old.text judge.text played) (most_is (Ok tt) put) (omega (arith, counted, at_here.rises))
            (still_silent put.silent) (tries_move (Ok tt) put) at_here.puts
            (at_here.after ∙ or_elim (is_written (mode_written game) (length old.text.levels.around) (move m)) (after_move_at old.stage w.is_after_move))

        pub move_fails : (f : Fault) → WritesMove {A = Unit {0}} taken failures m n begun_r new begun_w new_w b c (Err f)
            → GameCall taken failures game (game_by new_w new) a c (TakesEntry game k (game_by new_w new) (Err WriteFault))
        move_fails f put =
            let at_here = written_here (Err f) put in
            item_fails new_w new (move m) c put.tried (ap items_meant is) (λ moves. rw counted fits.0) stage (reader_is (Err f) put)
            (ap writing_of at_here.writer) (plays_on m old.text judge.text played) (most_is (Err f) put) (omega (arith, counted, at_here.rises))
            (still_silent put.silent) (tries_move (Err f) put) f at_here.puts

-- the profile is kept, and so what is written is still by its mode
pub still_sound : {w new_w : Written} {old new : Profile} → mode_of_written w ≡ mode_unless (is_nothing w) old.mode
    → new_w ≡ w → new ≡ old → mode_of_written new_w ≡ mode_unless (is_nothing new_w) new.mode
still_sound sound written profile = rw (written, profile) sound

pub sound_after : {S : Type 0} {taken : S → Option (List ℕ)} {failures : S → ℕ} {judge new : GameState} {w new_w : Writer} {a b : S}
    {r : Result Bool Reason} {Is : Event → Type 0} → TakesMeant taken failures judge new w new_w a b r Is
    → (old : GameState) (k : Kind) (e : Event) → Means old k judge e → IsTrue (may_have_movetext old.stage)
    → mode_of_written w.written ≡ mode_unless (is_nothing w.written) old.profile.mode → Is e
    → mode_of_written new_w.written ≡ mode_unless (is_nothing new_w.written) new.profile.mode
sound_after {new} {w} {new_w} {r} takes old k e means may sound is =
    still_sound sound takes.written (at_keeps (IsEntry (game_by w old) k) (game_by w old) k 0 (game_by new_w new) r _ (takes.takes old k 0 e means may sound is).takes).profile

-- what a game answers then, of a token that is no marker
module _ {S : Type 0} {taken : S → Option (List ℕ)} {failures : S → ℕ} {old new : GameState} {a b : S} {k : Kind} (place : ℕ) where
  pub taken_at : GameCall taken failures old new a b (TakesEntry old k new (Ok More)) → GameCall taken failures old new a b (TakesEntryPlaced old k place new (Ok false))
  taken_at call = record { takes = call.takes; silent = call.silent }

  pub failed_at : (reason : Reason) → marker_of k ≡ None → GameCall taken failures old new a b (TakesEntry old k new (Err reason))
      → GameCall taken failures old new a b (TakesEntryPlaced old k place new (Err reason))
  failed_at reason none call = record { takes = inl (call.takes, λ text is failed. absurd (cc (none, is))); silent = call.silent }
