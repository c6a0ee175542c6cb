use Rattle.pgn_game.proofs.ReaderPartsFitInMemory.{tags_fit, text_fits}
use Rattle.pgn_game.proofs.reader.Reader.new.Goals as goal

pub new-requires : goal.new-requires
new-requires g c = search tags_fit

pub new-requires-2 : goal.new-requires-2
new-requires-2 g c = search text_fits
