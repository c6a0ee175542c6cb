use Rattle.pgn_game.proofs.ReaderLemmas.{reader_fits}
use Rattle.pgn_game.proofs.game.Game.is_between.Goals as goal

pub is_between-requires : goal.is_between-requires
is_between-requires g c = search reader_fits
