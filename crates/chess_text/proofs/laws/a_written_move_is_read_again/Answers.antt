use Rattle.chess_text.proofs.names.TextsToMoves.{single}
use Rattle.chess_text.proofs.laws.a_written_move_is_read_again.Goals as goal

pub returns : goal.returns
returns c = single c.one_king_a_side.ensures
