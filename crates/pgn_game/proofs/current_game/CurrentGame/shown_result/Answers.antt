use Rattle.pgn_game.proofs.giving.CurrentFitsInMemory.{current_fits_reader}
use Rattle.pgn_game.proofs.current_game.CurrentGame.shown_result.Goals as goal

pub missing_result-missing-requires : goal.missing_result-missing-requires
missing_result-missing-requires g c = search current_fits_reader
