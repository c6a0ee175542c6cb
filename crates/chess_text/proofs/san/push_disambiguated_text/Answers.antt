use Rattle.chess_text.proofs.Words.{◌++◌, capture_if, rivals, arith, common_steps}
use Rattle.chess_text.proofs.forms.MoverOfMove.{piece_takes, pawn_has_no_rivals, something}
use Rattle.chess_text.proofs.names.OneMoveAgrees.{apart_same}
use Rattle.chess_text.proofs.san.push_disambiguated_text.Goals as goal

pub returns-clause-text : goal.returns-clause-text
returns-clause-text c = grind (arith, common_steps, ◌++◌, apart_same, rivals, capture_if, something, piece_takes, pawn_has_no_rivals)
