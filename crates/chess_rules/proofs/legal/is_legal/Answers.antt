use Rattle.chess_rules.proofs.Words.{arith, common_steps}
use Rattle.chess_rules.proofs.moves.KindsOfSteps.{piece_kind}
use Rattle.chess_rules.proofs.moves.StepsByCode.{no_king_by_code, no_pawn_by_code}
use Rattle.chess_rules.proofs.legal.is_legal.Goals as goal

pub is_safe_after-requires-clause-kind : goal.is_safe_after-requires-clause-kind
is_safe_after-requires-clause-kind c = grind (arith, common_steps, no_king_by_code, no_pawn_by_code, piece_kind)
