use Rattle.pgn_game.proofs.ReaderFitsInMemory.{fits_game}
use Rattle.pgn_game.proofs.converter.Converter.plies.Goals as goal

pub plies-requires : goal.plies-requires
plies-requires g c = search fits_game
