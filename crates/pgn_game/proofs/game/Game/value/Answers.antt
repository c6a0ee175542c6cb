use Rattle.pgn_game.proofs.ReaderLemmas.{reader_fits}
use Rattle.pgn_game.proofs.game.Game.value.Goals as goal

pub value-requires : goal.value-requires
value-requires g c = (search reader_fits, rw (← c.self.view_is) at c.requires)
