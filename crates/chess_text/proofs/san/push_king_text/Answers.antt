use Rattle.chess_text.proofs.Words.{◌++◌, capture_if, castling_text, arith, common_steps}
use Rattle.chess_text.proofs.forms.CastlingMoves.{legal_is_step}
use Rattle.chess_text.proofs.forms.MoverOfMove.{castling_written, step_written, piece_takes, something}
use Rattle.chess_text.proofs.san.push_king_text.Goals as goal

pub is_castling-requires : goal.is_castling-requires
is_castling-requires c = legal_is_step c.args.position.now c.args.mv.now c.requires.legal

pub returns-then-is_castling-clause-text : goal.returns-then-is_castling-clause-text
returns-then-is_castling-clause-text c = grind (arith, common_steps, ◌++◌, castling_text, castling_written)

pub returns-clause-text : goal.returns-clause-text
returns-clause-text c = grind (arith, common_steps, ◌++◌, capture_if, something, piece_takes, step_written)
