use Rattle.pgn_game.proofs.giving.CurrentFitsInMemory.{current_fits_reader}
use Rattle.pgn_game.proofs.current_game.CurrentGame.is_in_movetext.Goals as goal

pub is_in_movetext-requires : goal.is_in_movetext-requires
is_in_movetext-requires g c = search current_fits_reader
