use Rattle.pgn_game.proofs.ReaderLemmas.{reader_fits}
use Rattle.pgn_game.proofs.game.Game.count_missing_result_as.Goals as goal

pub count_missing_result_as-requires : goal.count_missing_result_as-requires
count_missing_result_as-requires g c = search reader_fits
