use Rattle.chess_rules.proofs.Words.{arith}
use Rattle.chess_rules.proofs.sets.WordsToCells.{sets_place, clears_place}
use Rattle.chess_rules.proofs.squares.Squares.with.Goals as goal

pub returns-then-member : goal.returns-then-member
returns-then-member c = grind (arith, sets_place)

pub returns-else-member : goal.returns-else-member
returns-else-member c = grind (arith, clears_place)
