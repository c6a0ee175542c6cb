use Rattle.pgn_game.proofs.ReaderPartsFitInMemory.{text_fits}
use Rattle.pgn_game.proofs.reader.Reader.plies.Goals as goal

pub plies-requires : goal.plies-requires
plies-requires g c = search text_fits
