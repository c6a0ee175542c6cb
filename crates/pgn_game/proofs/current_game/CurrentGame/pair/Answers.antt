use Rattle.pgn_game.proofs.Words.{is_some, ap}
use Rattle.pgn_game.proofs.giving.CurrentFitsInMemory.{current_fits_reader}
use Rattle.pgn_game.proofs.current_game.CurrentGame.pair.Goals as goal

pub mode-requires : goal.mode-requires
mode-requires g c = search current_fits_reader

pub pairs-requires : goal.pairs-requires
pairs-requires g c = (search current_fits_reader, c.self.invariant.whole (ap is_some c.in_ok-self.was))

pub has_fen-requires : goal.has_fen-requires
has_fen-requires g c = search current_fits_reader
