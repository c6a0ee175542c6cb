use Rattle.pgn_game.proofs.ReaderFitsInMemory.{reading_fits_converter}
use Rattle.pgn_game.proofs.checked.Reading.most_probes.Goals as goal

pub most_probes-requires : goal.most_probes-requires
most_probes-requires g c = search reading_fits_converter

pub returns-clause-value : goal.returns-clause-value
returns-clause-value g c = rw (← c.self.view_is) c.most_probes.ensures.value

pub returns-clause-bound : goal.returns-clause-bound
returns-clause-bound g c = c.most_probes.ensures.bound
