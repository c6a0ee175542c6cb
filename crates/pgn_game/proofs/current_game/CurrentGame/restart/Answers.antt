use Rattle.pgn_game.proofs.giving.CurrentFitsInMemory.{current_fits_reader}
use Rattle.pgn_game.proofs.current_game.CurrentGame.restart.Goals as goal

pub restart-requires : goal.restart-requires
restart-requires g c = search current_fits_reader
