use Rattle.pgn_game.proofs.ReaderLemmas.{reader_fits}
use Rattle.pgn_game.proofs.game.Game.plies_of_finished_games.Goals as goal

pub plies_of_finished_games-requires : goal.plies_of_finished_games-requires
plies_of_finished_games-requires g c = (search reader_fits, rw (← c.self.view_is) at c.requires)
