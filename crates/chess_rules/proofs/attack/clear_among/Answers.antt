use Rattle.chess_rules.proofs.Words.{length, ap, arith, common_steps}
use Rattle.chess_rules.proofs.lines.ClearWays.{none_left}
use Rattle.chess_rules.proofs.attack.clear_among.Goals as goal

pub loop-square-init : goal.loop-square-init
loop-square-init c = grind arith

pub loop-square-smaller-then-not-is_clear : goal.loop-square-smaller-then-not-is_clear
loop-square-smaller-then-not-is_clear c = omega (arith, ap length c.in-Some.ensures.next)

pub loop-square-preserved-then-not-is_clear : goal.loop-square-preserved-then-not-is_clear
loop-square-preserved-then-not-is_clear c = grind arith

pub loop-square-smaller : goal.loop-square-smaller
loop-square-smaller c = omega (arith, ap length c.in-Some.ensures.next)

pub loop-square-preserved : goal.loop-square-preserved
loop-square-preserved c = grind arith

pub returns : goal.returns
returns c = grind (arith, common_steps, none_left)
