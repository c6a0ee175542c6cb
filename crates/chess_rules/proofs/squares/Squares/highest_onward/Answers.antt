use Rattle.chess_rules.proofs.Words.{cell_of, w64, arith, leading_zeros, nat_lt, common_steps}
use Rattle.chess_rules.proofs.sets.AllSquares.{cell_of-square_at}
use Rattle.chess_rules.proofs.sets.LowestAndHighest.{highest_place, from_all, highest_onward}
use Rattle.chess_rules.proofs.squares.Squares.highest_onward.Goals as goal

pub returns-then-self-eq0 : goal.returns-then-self-eq0
returns-then-self-eq0 c = grind (arith, common_steps, from_all)

pub returns : goal.returns
returns c = grind (arith, common_steps, cell_of, leading_zeros, w64, cell_of-square_at, highest_onward, highest_place, nat_lt)
