use Rattle.pgn_game.proofs.Words.{arith}
use Rattle.pgn_game.proofs.ReaderFitsInMemory.{fits_alike}
use Rattle.pgn_game.proofs.converter.Converter.new.Goals as goal

pub begin_at-requires : goal.begin_at-requires
begin_at-requires g c = (search fits_alike, (c.requires, omega arith))
