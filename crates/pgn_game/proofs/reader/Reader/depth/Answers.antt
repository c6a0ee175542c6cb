use Rattle.pgn_game.proofs.ReaderLemmas.{text_fits}
use Rattle.pgn_game.proofs.reader.Reader.depth.Goals as goal

pub depth-requires : goal.depth-requires
depth-requires g c = search text_fits
