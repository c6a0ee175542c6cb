use Rattle.pgn_game.proofs.giving.CurrentFitsInMemory.{current_fits_reader}
use Rattle.pgn_game.proofs.current_game.CurrentGame.new.Goals as goal

pub new-requires : goal.new-requires
new-requires g c = (search current_fits_reader, c.requires)
