use Rattle.chess_text.proofs.Words.{◌++◌, pawn_capture, arith, common_steps}
use Rattle.chess_text.proofs.forms.MoverOfMove.{pawn_takes}
use Rattle.chess_text.proofs.san.push_pawn_text.Goals as goal

pub returns-clause-text : goal.returns-clause-text
returns-clause-text c = grind (arith, common_steps, ◌++◌, pawn_capture, pawn_takes)
