use Rattle.chess_rules.proofs.Words.{Square, ◌≡◌, Bool, not, then_some, None, Some, if◌then◌else◌, arith, common_steps}
use Rattle.chess_rules.proofs.sets.SetsToSquares.{lone_first}
use Rattle.chess_rules.proofs.squares.Squares.only.Goals as goal

unless : (x : Bool) (s : Square) → then_some (not x) s ≡ (if x then None else Some s)
unless x s = grind (arith, common_steps)

pub returns : goal.returns
returns c = grind (arith, common_steps, then_some, unless, lone_first)
