use Rattle.pgn_game.proofs.ReaderFitsInMemory.{games_fit_converter}
use Rattle.pgn_game.proofs.games.Games.most_probes.Goals as goal

pub most_probes-requires : goal.most_probes-requires
most_probes-requires g c = search games_fit_converter

pub returns-clause-value : goal.returns-clause-value
returns-clause-value g c = rw (← c.self.view_is) c.most_probes.ensures.value

pub returns-clause-bound : goal.returns-clause-bound
returns-clause-bound g c = c.most_probes.ensures.bound
