use Rattle.pgn_game.proofs.ReaderPartsFitInMemory.{text_fits}
use Rattle.pgn_game.proofs.reader.Reader.position.Goals as goal

pub position-requires : goal.position-requires
position-requires g c = search text_fits
