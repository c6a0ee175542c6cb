use Rattle.pgn_game.proofs.ReaderLemmas.{reader_fits}
use Rattle.pgn_game.proofs.game.Game.is_unexpected.Goals as goal

pub missing_result-requires : goal.missing_result-requires
missing_result-requires g c = search reader_fits
