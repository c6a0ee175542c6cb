use Rattle.chess_rules.proofs.Words.{king_square, is_legal_pair, is_king_step, has_king_step, count_king_steps, length, ap, arith, list_any, common_steps}
use Rattle.chess_rules.proofs.sets.SetsToSquares.{members_are}
use Rattle.chess_rules.proofs.trying.SearchThatCounts.{left_fits, fewer_left, left_hit, none_left}
use Rattle.chess_rules.proofs.pairs.has_king_step.Goals as goal

pub loop-target-init : goal.loop-target-init
loop-target-init c = grind (arith, common_steps, members_are, is_king_step, list_any, is_legal_pair, king_square)

pub is_legal_pair-requires : goal.is_legal_pair-requires
unfolding count_king_steps
is_legal_pair-requires c = grind (arith, left_fits)

pub returns-then-is_legal_pair-clause-found : goal.returns-then-is_legal_pair-clause-found
unfolding has_king_step
returns-then-is_legal_pair-clause-found c = grind (arith, left_hit)

pub returns-then-is_legal_pair-clause-count : goal.returns-then-is_legal_pair-clause-count
unfolding count_king_steps
returns-then-is_legal_pair-clause-count c = grind (arith, left_hit)

pub loop-target-smaller : goal.loop-target-smaller
loop-target-smaller c = omega (arith, ap length c.in-Some.ensures.next)

pub loop-target-preserved : goal.loop-target-preserved
loop-target-preserved c = grind (arith, fewer_left)

pub returns-clause-found : goal.returns-clause-found
unfolding has_king_step
returns-clause-found c = grind (arith, none_left)

pub returns-clause-count : goal.returns-clause-count
unfolding count_king_steps
returns-clause-count c = grind (arith, none_left)
