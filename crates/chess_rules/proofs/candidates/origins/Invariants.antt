use Rattle.chess_rules.proofs.Words.{candidates, members, ◌≡◌, ◌++◌, length}
use Rattle.chess_rules.proofs.candidates.origins.Given as goal

-- the origins so far and those that are left
abbrev pub invariant-loop-origin : goal.invariant-loop-origin
invariant-loop-origin l = record { all : l.origins.items ++ members l.left ≡ candidates l.fn.position l.fn.kind l.fn.target }

abbrev pub decreases-loop-origin : goal.decreases-loop-origin
decreases-loop-origin l = length (members l.left)
