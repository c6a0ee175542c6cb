use Rattle.chess_text.proofs.names.TextsToMoves.{written_move_is_read}
use Rattle.chess_text.proofs.laws.a_written_move_is_read_as_itself.Goals as goal

pub returns : goal.returns
returns c = written_move_is_read c.one_king_a_side.ensures
