use Rattle.chess_text.proofs.Words.{is_some, castling_move, arith, common_steps}
use Rattle.chess_text.proofs.forms.CastlingMoves.{castling_illegal, castling_found, castling_other, legal_is_step}
use Rattle.chess_text.proofs.resolution.resolve_castling.Goals as goal

pub is_castling-requires : goal.is_castling-requires
is_castling-requires c = grind (arith, common_steps, legal_is_step, is_some)

pub returns-then-is_none-clause-answer : goal.returns-then-is_none-clause-answer
returns-then-is_none-clause-answer c = grind (arith, common_steps, castling_illegal, castling_move, is_some)

pub returns-then-is_castling-clause-answer : goal.returns-then-is_castling-clause-answer
returns-then-is_castling-clause-answer c = grind (arith, common_steps, castling_found, castling_move, is_some)

pub returns-else-is_castling-clause-answer : goal.returns-else-is_castling-clause-answer
returns-else-is_castling-clause-answer c = grind (arith, common_steps, castling_other, castling_move)
