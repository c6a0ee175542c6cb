use Rattle.pgn_game.proofs.ReaderLemmas.{reader_fits}
use Rattle.pgn_game.proofs.game.Game.is_in_movetext.Goals as goal

pub is_in_movetext-requires : goal.is_in_movetext-requires
is_in_movetext-requires g c = search reader_fits
