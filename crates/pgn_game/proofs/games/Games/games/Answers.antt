use Rattle.pgn_game.proofs.ReaderFitsInMemory.{games_fit_converter}
use Rattle.pgn_game.proofs.games.Games.games.Goals as goal

pub games-requires : goal.games-requires
games-requires g c = search games_fit_converter
