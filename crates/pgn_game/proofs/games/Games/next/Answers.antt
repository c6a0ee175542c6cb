use Rattle.pgn_game.proofs.ReaderFitsInMemory.{games_fit_converter}
use Rattle.pgn_game.proofs.games.Games.next.Goals as goal

pub next_game-requires : goal.next_game-requires
next_game-requires g c = search games_fit_converter

pub returns-clause-reads : goal.returns-clause-reads
returns-clause-reads g c = rw (← c.self.view_is) c.next_game.ensures.goes.reads

pub returns-clause-again : goal.returns-clause-again
returns-clause-again g c = rw (← c.self.view_is) c.next_game.ensures.again

pub returns-clause-fault : goal.returns-clause-fault
returns-clause-fault g c = c.next_game.ensures.goes.fault

pub returns-clause-counted : goal.returns-clause-counted
returns-clause-counted g c = rw (← c.self.view_is) c.next_game.ensures.goes.counted

pub returns-clause-silent : goal.returns-clause-silent
returns-clause-silent g c = rw (← c.self.view_is) c.next_game.ensures.silent

pub returns-clause-probes : goal.returns-clause-probes
returns-clause-probes g c = rw (← c.self.view_is) c.next_game.ensures.goes.probes
