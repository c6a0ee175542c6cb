use Rattle.pgn_game.proofs.ReaderLemmas.{reader_fits}
use Rattle.pgn_game.proofs.game.Game.marker.Goals as goal

pub marker-requires : goal.marker-requires
marker-requires g c = search reader_fits
