use Rattle.pgn_game.proofs.ReaderLemmas.{reader_fits}
use Rattle.pgn_game.proofs.game.Game.most_probes.Goals as goal

pub most_probes-requires : goal.most_probes-requires
most_probes-requires g c = search reader_fits
