use Rattle.pgn_game.proofs.ReaderFitsInMemory.{fits_game}
use Rattle.pgn_game.proofs.converter.Converter.placed_marker.Goals as goal

pub placed_marker-requires : goal.placed_marker-requires
placed_marker-requires g c = search fits_game
