use Rattle.chess_rules.proofs.Words.{at, square_at, ◌∙◌}
use Rattle.chess_rules.proofs.lines.AttackToReach.{attacker_of}
use Rattle.chess_rules.proofs.sets.SetsToSquares.{places_and, places_or}
use Rattle.chess_rules.proofs.attack.possible_attackers.Goals as goal

pub returns : goal.returns
returns c =
    let there =
    places_or _ _ _ _ _ c.bitor-2.ensures
    (places_and _ _ _ _ _ c.bitand-4.ensures
    (places_or _ _ _ _ _ c.bitor-near.ensures
    (places_or _ _ _ _ _ c.bitor.ensures
    (places_and _ _ _ _ _ c.bitand.ensures c.knights_to.ensures c.of_kind.ensures)
    (places_and _ _ _ _ _ c.bitand-2.ensures c.adjacent.ensures c.of_kind-2.ensures))
    (places_and _ _ _ _ _ c.bitand-3.ensures c.pawns_to.ensures c.of_kind-3.ensures))
    c.of_colour.ensures)
    c.sliders.ensures in
    record { of = λ i low. there.of i low ∙ attacker_of c.args.by (at c.args.board.now (square_at i)) (square_at i) c.args.target }
