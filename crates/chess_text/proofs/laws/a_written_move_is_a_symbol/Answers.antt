use Rattle.chess_text.proofs.names.TextsToMoves.{written_move_is_symbol}
use Rattle.chess_text.proofs.laws.a_written_move_is_a_symbol.Goals as goal

pub returns : goal.returns
returns c = written_move_is_symbol
