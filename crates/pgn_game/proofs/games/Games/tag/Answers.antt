use Rattle.pgn_game.proofs.ReaderFitsInMemory.{games_fit_converter}
use Rattle.pgn_game.proofs.games.Games.tag.Goals as goal

pub tag-requires : goal.tag-requires
tag-requires g c = search games_fit_converter
