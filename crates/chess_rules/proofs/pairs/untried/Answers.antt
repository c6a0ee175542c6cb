use Rattle.chess_rules.proofs.Words.{King, Knight, cell_of, is_king_step, own, Places, has, not, ◌&&◌, arith}
use Rattle.chess_rules.proofs.sets.AllSquares.{cell_of-square_at}
use Rattle.chess_rules.proofs.sets.SetsToSquares.{places_and, places_or}
use Rattle.chess_rules.proofs.trying.SetsToPairs.{own_places, colour_places, aligned_left, king_left_out, step_tried}
use Rattle.chess_rules.proofs.pairs.untried.Goals as goal
use Rattle.chess_rules.proofs.pairs.untried.Goals.{then-has, else-has}

pub returns : goal.returns
returns c =
    let p = c.args.position.now in
    let knights = own_places p Knight c.side-side.result c.board-board.result.now
    c.pieces-knights.result c.side-side.ensures c.board-board.ensures c.pieces-knights.ensures in
    let left : Places c.if-has.others (λ s. has c.bitand-others.result (cell_of s) && not (is_king_step p c.args.target && own p King s)) =
    elim c.if-has.branch [
      | then-has w ↦ grind (arith, king_left_out, step_tried, own_places)
      | else-has w ↦ grind (arith, step_tried, cell_of-square_at)
    ] in
    places_or _ _ _ _ _ c.bitor.ensures
    (places_and _ _ _ _ _ c.bitand-2.ensures knights c.knights_to.ensures)
    (aligned_left p c.args.target c.board-board.result.now c.of_colour.result c.pieces-knights.result
    c.not.result c.bitand.result c.aligned.result c.bitand-others.result c.if-has.others c.clear_among.result
    c.board-board.ensures c.not.ensures c.bitand.ensures c.bitand-others.ensures
    (colour_places p c.side-side.result c.board-board.result.now c.of_colour.result c.side-side.ensures c.board-board.ensures c.of_colour.ensures)
    knights c.aligned.ensures left c.clear_among.ensures)
