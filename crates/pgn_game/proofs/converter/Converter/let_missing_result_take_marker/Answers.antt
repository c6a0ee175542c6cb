use Rattle.pgn_game.proofs.ReaderFitsInMemory.{fits_game}
use Rattle.pgn_game.proofs.converter.Converter.let_missing_result_take_marker.Goals as goal

pub count_missing_result_as-requires : goal.count_missing_result_as-requires
count_missing_result_as-requires g c = search fits_game
