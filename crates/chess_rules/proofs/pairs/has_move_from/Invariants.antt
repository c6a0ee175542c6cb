use Rattle.chess_rules.specs.Pairs as spec
use Rattle.chess_rules.proofs.Words.{members, length}
use Rattle.chess_rules.proofs.trying.SearchThatCounts.{LeftOf}
use Rattle.chess_rules.proofs.pairs.has_move_from.Given as goal

abbrev pub invariant-loop-from : goal.invariant-loop-from
invariant-loop-from l = LeftOf (λ s. spec.is_legal_pair l.position s l.target) (members l.fn.origins) l.left l.fn.probes l.probes

abbrev pub decreases-loop-from : goal.decreases-loop-from
decreases-loop-from l = length (members l.left)
