use Rattle.pgn_game.proofs.ReaderLemmas.{reader_fits}
use Rattle.pgn_game.proofs.game.Game.position.Goals as goal

pub position-requires : goal.position-requires
position-requires g c = search reader_fits
