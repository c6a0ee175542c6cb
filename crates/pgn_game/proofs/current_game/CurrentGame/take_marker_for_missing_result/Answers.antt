use Rattle.pgn_game.proofs.giving.CurrentFitsInMemory.{current_fits_reader}
use Rattle.pgn_game.proofs.current_game.CurrentGame.take_marker_for_missing_result.Goals as goal

pub count_missing_result_as-requires : goal.count_missing_result_as-requires
count_missing_result_as-requires g c = search current_fits_reader
