use Rattle.pgn_game.proofs.stepping.GamesRestart as games_restart
use Rattle.pgn_game.proofs.laws.games_restart.Goals as goal

pub returns : goal.returns
returns c = games_restart.games_restart c.texts_restart.ensures
