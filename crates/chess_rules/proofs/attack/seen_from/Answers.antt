use Rattle.chess_rules.proofs.Words.{is_steep, arith, common_steps}
use Rattle.chess_rules.proofs.lines.InView.{line_of_set}
use Rattle.chess_rules.proofs.lines.SeenAlong.{seen_by_lines}
use Rattle.chess_rules.proofs.lines.LinesThrough.{falling_line, file_line, rank_line, rising_line}
use Rattle.chess_rules.proofs.sets.SetsToSquares.{places_and, places_not}
use Rattle.chess_rules.proofs.attack.seen_from.Goals as goal

pub seen_along-requires : goal.seen_along-requires
seen_along-requires c =
    let on = c.recall_invariant.ensures in
    line_of_set on.file on.rank (file_line c.args.origin on.file) (places_and _ _ _ _ _ c.bitand.ensures c.rank_and_file-rank_and_file.ensures c.steep-steep.ensures)

pub seen_along-requires-2 : goal.seen_along-requires-2
seen_along-requires-2 c =
    let on = c.recall_invariant.ensures in
    line_of_set on.file on.rank (rank_line c.args.origin on.file) (places_and _ _ _ _ _ c.bitand-2.ensures c.rank_and_file-rank_and_file.ensures (places_not _ _ _ c.not.ensures c.steep-steep.ensures))

pub seen_along-requires-3 : goal.seen_along-requires-3
seen_along-requires-3 c =
    let on = c.recall_invariant.ensures in
    line_of_set on.file on.rank (rising_line c.args.origin on.file) (places_and _ _ _ _ _ c.bitand-3.ensures c.diagonals-diagonals.ensures c.steep-steep.ensures)

pub seen_along-requires-4 : goal.seen_along-requires-4
seen_along-requires-4 c =
    let on = c.recall_invariant.ensures in
    line_of_set on.file on.rank (falling_line c.args.origin on.file) (places_and _ _ _ _ _ c.bitand-4.ensures c.diagonals-diagonals.ensures (places_not _ _ _ c.not-2.ensures c.steep-steep.ensures))

pub returns : goal.returns
returns c = grind (arith, common_steps, seen_by_lines, places_and, places_not, is_steep)
