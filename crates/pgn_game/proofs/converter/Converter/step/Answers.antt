use Rattle.pgn_game.proofs.ReaderFitsInMemory.{fits_game}
use Rattle.pgn_game.proofs.converter.Converter.step.Goals as goal

pub is_in_movetext-requires : goal.is_in_movetext-requires
is_in_movetext-requires g c = search fits_game
