use Rattle.pgn_game.proofs.ReaderFitsInMemory.{fits_game}
use Rattle.pgn_game.proofs.converter.Converter.most_probes.Goals as goal

pub most_probes-requires : goal.most_probes-requires
most_probes-requires g c = search fits_game
