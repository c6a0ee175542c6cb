use Rattle.pgn_game.proofs.stepping.GamesJoined.{games_join}
use Rattle.pgn_game.proofs.laws.games_join.Goals as goal

pub returns : goal.returns
returns c = games_join
