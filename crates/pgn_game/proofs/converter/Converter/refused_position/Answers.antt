use Rattle.pgn_game.proofs.ReaderFitsInMemory.{fits_game}
use Rattle.pgn_game.proofs.converter.Converter.refused_position.Goals as goal

pub position-requires : goal.position-requires
position-requires g c = search fits_game
