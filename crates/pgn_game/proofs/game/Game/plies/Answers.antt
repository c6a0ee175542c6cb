use Rattle.pgn_game.proofs.ReaderLemmas.{reader_fits}
use Rattle.pgn_game.proofs.game.Game.plies.Goals as goal

pub plies-requires : goal.plies-requires
plies-requires g c = search reader_fits
