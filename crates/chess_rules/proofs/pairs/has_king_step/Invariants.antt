use Rattle.chess_rules.proofs.Words.{squares, king_square, members, length, filter}
use Rattle.chess_rules.specs.Pairs as spec
use Rattle.chess_rules.proofs.trying.SearchThatCounts.{LeftOf}
use Rattle.chess_rules.proofs.pairs.has_king_step.Given as goal

abbrev pub invariant-loop-target : goal.invariant-loop-target
invariant-loop-target l =
    LeftOf (spec.is_legal_pair l.position (king_square l.position.side l.position.board))
    (filter (spec.is_king_step l.position) squares) l.left l.fn.probes l.probes

abbrev pub decreases-loop-target : goal.decreases-loop-target
decreases-loop-target l = length (members l.left)
