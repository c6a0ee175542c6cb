use Rattle.pgn_game.proofs.ReaderFitsInMemory.{fits_game}
use Rattle.pgn_game.proofs.converter.Converter.marker.Goals as goal

pub marker-requires : goal.marker-requires
marker-requires g c = search fits_game
