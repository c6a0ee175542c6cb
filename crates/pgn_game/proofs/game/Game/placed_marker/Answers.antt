use Rattle.pgn_game.proofs.ReaderLemmas.{reader_fits}
use Rattle.pgn_game.proofs.game.Game.placed_marker.Goals as goal

pub marker-requires : goal.marker-requires
marker-requires g c = search reader_fits

pub marker_at-requires : goal.marker_at-requires
marker_at-requires g c = search reader_fits
