use Rattle.pgn_game.proofs.ReaderFitsInMemory.{games_fit_converter}
use Rattle.pgn_game.proofs.games.Games.position.Goals as goal

pub position-requires : goal.position-requires
position-requires g c = search games_fit_converter
