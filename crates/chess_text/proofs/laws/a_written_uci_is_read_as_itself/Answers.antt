use Rattle.chess_text.proofs.names.UciToMove.{written_uci_is_read}
use Rattle.chess_text.proofs.laws.a_written_uci_is_read_as_itself.Goals as goal

pub returns : goal.returns
returns c = written_uci_is_read
