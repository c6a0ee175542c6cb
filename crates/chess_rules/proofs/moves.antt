-- Steps of a piece, and the position after a legal move.
use Rattle.chess_rules.proofs.Words.{nat_tests}
use Rattle.chess_rules.proofs.positions.RulesOfPosition.{own_king}
use Rattle.chess_rules.proofs.moves.KindsOfSteps.{pawn_decides, piece_decides, piece_kind, step_is_own}
use Rattle.chess_rules.proofs.moves.PlainStepAttacks.{none_unless_step}
use Rattle.chess_rules.proofs.moves.StepsByCode.{no_king_by_code, no_pawn_by_code, pawn_by_code, step_by_code}
pub mod BoardAfterMove
pub mod CellsAfterPut
pub mod CheckStays
pub mod KindsOfSteps
pub mod LegalToPosition
pub mod OneWayToStep
pub mod PlainStepAttacks
pub mod StepsByCode
pub mod StepsKeepBoard
pub mod WaysToStep

-- what the code of a piece says of its step
pub ruleset codes = (pawn_by_code, no_pawn_by_code, no_king_by_code, step_by_code)

-- when the king's safety decides, and when a move is no step
pub ruleset decided = (none_unless_step, step_is_own, pawn_decides, piece_kind, piece_decides)

-- whether a king moves, and how far
pub ruleset kings = (own_king, nat_tests)
