use Rattle.pgn_game.proofs.ReaderLemmas.{text_fits}
use Rattle.pgn_game.proofs.reader.Reader.find.Goals as goal

pub position-requires : goal.position-requires
position-requires g c = search text_fits
