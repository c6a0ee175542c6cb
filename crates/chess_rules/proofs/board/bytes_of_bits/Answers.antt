use Rattle.chess_rules.proofs.Words.{refl, bytes_of_bits}
use Rattle.chess_rules.proofs.sets.TablesOfSquares.{table_at}
use Rattle.chess_rules.proofs.board.bytes_of_bits.Goals as goal

pub returns : goal.returns
returns c = table_at (bytes_of_bits 8) _ 256 c.args.bits refl c.requires
