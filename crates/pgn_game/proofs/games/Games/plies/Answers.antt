use Rattle.pgn_game.proofs.ReaderFitsInMemory.{games_fit_converter}
use Rattle.pgn_game.proofs.games.Games.plies.Goals as goal

pub plies-requires : goal.plies-requires
plies-requires g c = search games_fit_converter
