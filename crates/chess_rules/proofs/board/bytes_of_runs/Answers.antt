use Rattle.chess_rules.proofs.Words.{refl, bytes_of_runs}
use Rattle.chess_rules.proofs.sets.TablesOfSquares.{table_at}
use Rattle.chess_rules.proofs.board.bytes_of_runs.Goals as goal

pub returns : goal.returns
returns c = table_at (bytes_of_runs 8 0) _ 256 c.args.bits refl c.requires
