use Rattle.chess_rules.proofs.Words.{arith}
use Rattle.chess_rules.proofs.sets.AllSquares.{cell_of-square_at}
use Rattle.chess_rules.proofs.sets.WordsToCells.{has_below}
use Rattle.chess_rules.proofs.squares.Squares.before.Goals as goal

pub returns : goal.returns
returns c = grind (arith, has_below, cell_of-square_at)
