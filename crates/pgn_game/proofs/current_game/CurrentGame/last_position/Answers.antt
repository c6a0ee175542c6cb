use Rattle.pgn_game.proofs.giving.CurrentFitsInMemory.{current_fits_reader}
use Rattle.pgn_game.proofs.current_game.CurrentGame.last_position.Goals as goal

pub position-requires : goal.position-requires
position-requires g c = search current_fits_reader
