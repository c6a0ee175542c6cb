use Rattle.chess_text.proofs.Words.{◌≡◌, ◌∙◌, sym, ap, arith, is_none, is_some, true, false, Option, Piece}
use Rattle.chess_text.proofs.keys.EnPassant.{target_covered}
use Rattle.chess_text.proofs.key.usable_target.Goals as goal

full : (cell : Option Piece) → is_some cell ≡ true → is_none cell ≡ false
full cell h = grind arith

pub returns-then-is_some-clause-target : goal.returns-then-is_some-clause-target
returns-then-is_some-clause-target c =
    (target_covered c.args.position.now c.in_ok-target.target (sym c.target.ensures ∙ c.in_ok-target.was)
    (full _ (ap (λ (cell : Option Piece). is_some cell) (sym c.at.ensures) ∙ sym c.is_some.ensures ∙ c.if-is_some.true))).0
