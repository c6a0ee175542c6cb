use Rattle.chess_rules.proofs.Words.{at, square_at, ◌∙◌}
use Rattle.chess_rules.proofs.lines.AttackToReach.{slider_is}
use Rattle.chess_rules.proofs.sets.SetsToSquares.{places_and, places_or}
use Rattle.chess_rules.proofs.attack.sliders.Goals as goal

pub returns : goal.returns
returns c =
    let there =
    places_and _ _ _ _ _ c.bitand-3.ensures
    (places_or _ _ _ _ _ c.bitor-3.ensures
    (places_and _ _ _ _ _ c.bitand.ensures c.rank_and_file.ensures (places_or _ _ _ _ _ c.bitor.ensures c.of_kind.ensures c.of_kind-2.ensures))
    (places_and _ _ _ _ _ c.bitand-2.ensures c.diagonals.ensures (places_or _ _ _ _ _ c.bitor-2.ensures c.of_kind-3.ensures c.of_kind-4.ensures)))
    c.of_colour.ensures in
    record { of = λ i low. there.of i low ∙ slider_is c.args.by (at c.args.board.now (square_at i)) (square_at i) c.args.target }
