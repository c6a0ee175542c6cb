use Rattle.pgn_game.proofs.ReaderLemmas.{reader_fits}
use Rattle.pgn_game.proofs.game.Game.new.Goals as goal

pub new-requires : goal.new-requires
new-requires g c = (search reader_fits, c.requires)
