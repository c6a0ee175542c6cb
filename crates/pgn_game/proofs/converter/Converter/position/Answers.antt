use Rattle.pgn_game.proofs.ReaderFitsInMemory.{fits_game}
use Rattle.pgn_game.proofs.converter.Converter.position.Goals as goal

pub position-requires : goal.position-requires
position-requires g c = search fits_game
