use Rattle.pgn_game.proofs.Words.{is_some, ap}
use Rattle.pgn_game.proofs.giving.CurrentFitsInMemory.{current_fits_reader}
use Rattle.pgn_game.proofs.current_game.CurrentGame.tag.Goals as goal

pub value_with-requires : goal.value_with-requires
value_with-requires g c = (search current_fits_reader, c.self.invariant.whole (ap is_some c.in_ok-self.was))
