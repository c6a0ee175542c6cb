use Rattle.chess_rules.proofs.Words.{members, length}
use Rattle.chess_rules.proofs.trying.PairsFromOrigin.{OriginsLeft}
use Rattle.chess_rules.proofs.pairs.rule_out_moves_to.Given as goal

abbrev pub invariant-loop-origin : goal.invariant-loop-origin
invariant-loop-origin l = OriginsLeft l.position l.targets l.left l.fn.probes l.probes

abbrev pub decreases-loop-origin : goal.decreases-loop-origin
decreases-loop-origin l = length (members l.left)
