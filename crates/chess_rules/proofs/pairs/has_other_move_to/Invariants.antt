use Rattle.chess_rules.specs.Pairs as spec
use Rattle.chess_rules.proofs.Words.{members, length}
use Rattle.chess_rules.proofs.trying.SearchThatCounts.{TargetsLeft}
use Rattle.chess_rules.proofs.pairs.has_other_move_to.Given as goal

abbrev pub invariant-loop-target : goal.invariant-loop-target
invariant-loop-target l =
    TargetsLeft (spec.has_untried_move l.position) (spec.count_untried l.position) (members l.fn.targets) l.left l.fn.probes l.probes

abbrev pub decreases-loop-target : goal.decreases-loop-target
decreases-loop-target l = length (members l.left)
