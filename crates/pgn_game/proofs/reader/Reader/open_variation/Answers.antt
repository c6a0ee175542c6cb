use Rattle.pgn_game.proofs.Words.{IsOpen, None, Part, GameState, Writer, game_by, nat_le, or_else, text_refusal, ◌≡◌, ◌-◌, length, not, refl, sym, ap, ◌∙◌, arith, is_some, le-leb, lt-leb, NoMoveBefore, TooDeep, left_paren, rules}
use Rattle.pgn_game.proofs.ReaderLemmas.{hit, pass, holds_is, depth_is}
use Rattle.pgn_game.proofs.ReaderPartsFitInMemory.{text_fits}
use Rattle.pgn_game.proofs.putting.TokenToEvent.{entry_refuses, none_tried}
use Rattle.pgn_game.proofs.reader.Reader.open_variation.Goals as goal

-- what a `(` is rejected for, by what the reader holds
rows : (old held : GameState) → held ≡ old → (w : Writer) (part : Part) → IsOpen (game_by w old) part → text_refusal old.profile part left_paren
    ≡ or_else (not (is_some held.text.levels.current.before)) NoMoveBefore
    (or_else (nat_le held.profile.depth (length held.text.levels.around)) TooDeep None)
rows old held same w part is = rw same (cc (holds_is (game_by w old) part is, depth_is (game_by w old) part is))

pub returns-then-not-has_own_move : goal.returns-then-not-has_own_move
returns-then-not-has_own_move g c =
    entry_refuses c.args.self.now left_paren NoMoveBefore refl refl (λ w part is.
    rows c.args.self.now _ c.self.view_is w part is ∙ hit _ _ _ (ap not (sym c.has_own_move.ensures ∙ c.if-not-has_own_move.true))) (λ part. refl)

pub returns-then-depth : goal.returns-then-depth
returns-then-depth g c =
    let deep = le-leb (g.row.L - 1) (length c.self.inside.levels.levels.around) (omega (arith, c.if-depth.true, c.depth.ensures.value)) in
    entry_refuses c.args.self.now left_paren TooDeep refl refl (λ w part is.
    rows c.args.self.now _ c.self.view_is w part is ∙ pass _ _ _ (ap not (sym c.has_own_move.ensures ∙ c.if-not-has_own_move.false)) ∙ hit _ _ _ deep)
    (λ part. refl)

pub returns : goal.returns
returns g c = search (rules, lt-leb, rows, pass, none_tried)

pub has_own_move-requires : goal.has_own_move-requires
has_own_move-requires g c = search text_fits

pub depth-requires : goal.depth-requires
depth-requires g c = search text_fits
