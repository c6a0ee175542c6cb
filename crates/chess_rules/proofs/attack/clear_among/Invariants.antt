use Rattle.chess_rules.proofs.Words.{is_clear, members, length}
use Rattle.chess_rules.proofs.lines.ClearWays.{Keeps}
use Rattle.chess_rules.proofs.attack.clear_among.Given as goal

abbrev pub invariant-loop-square : goal.invariant-loop-square
invariant-loop-square l = Keeps (λ s. is_clear l.board s l.target) l.fn.set l.left l.clear

abbrev pub decreases-loop-square : goal.decreases-loop-square
decreases-loop-square l = length (members l.left)
