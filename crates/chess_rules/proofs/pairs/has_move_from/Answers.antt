use Rattle.chess_rules.proofs.Words.{members, length, ap, arith, common_steps}
use Rattle.chess_rules.proofs.trying.SearchThatCounts.{left_fits, fewer_left, left_hit, none_left}
use Rattle.chess_rules.proofs.pairs.has_move_from.Goals as goal

pub loop-from-init : goal.loop-from-init
loop-from-init c = grind arith

pub is_legal_pair-requires : goal.is_legal_pair-requires
is_legal_pair-requires c = grind (arith, left_fits)

pub returns-then-is_legal_pair-clause-found : goal.returns-then-is_legal_pair-clause-found
returns-then-is_legal_pair-clause-found c = grind (arith, left_hit)

pub returns-then-is_legal_pair-clause-count : goal.returns-then-is_legal_pair-clause-count
returns-then-is_legal_pair-clause-count c = grind (arith, left_hit)

pub loop-from-smaller : goal.loop-from-smaller
loop-from-smaller c = omega (arith, ap length c.in-Some.ensures.next)

pub loop-from-preserved : goal.loop-from-preserved
loop-from-preserved c = grind (arith, fewer_left)

pub returns-clause-found : goal.returns-clause-found
returns-clause-found c = grind (arith, common_steps, none_left, members)

pub returns-clause-count : goal.returns-clause-count
returns-clause-count c = grind (arith, common_steps, none_left, members)
