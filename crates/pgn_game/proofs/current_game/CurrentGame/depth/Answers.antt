use Rattle.pgn_game.proofs.giving.CurrentFitsInMemory.{current_fits_reader}
use Rattle.pgn_game.proofs.current_game.CurrentGame.depth.Goals as goal

pub depth-requires : goal.depth-requires
depth-requires g c = search current_fits_reader
