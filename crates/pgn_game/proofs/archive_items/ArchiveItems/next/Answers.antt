use Rattle.pgn_game.proofs.giving.CurrentFitsInMemory.{archive_fits_items}
use Rattle.pgn_game.proofs.archive_items.ArchiveItems.next.Goals as goal

pub next-result-requires : goal.next-result-requires
next-result-requires g c = search archive_fits_items

pub place-self-inside-requires : goal.place-self-inside-requires
place-self-inside-requires g c = search archive_fits_items

pub returns-else-gives_marker-clause-reads : goal.returns-else-gives_marker-clause-reads
returns-else-gives_marker-clause-reads g c = rw (← c.self.view_is) c.next-result.ensures.reads

pub returns-else-gives_marker-clause-again : goal.returns-else-gives_marker-clause-again
returns-else-gives_marker-clause-again g c = rw (← c.self.view_is) c.next-result.ensures.again

pub returns-else-gives_marker-clause-at_end : goal.returns-else-gives_marker-clause-at_end
returns-else-gives_marker-clause-at_end g c = rw (← c.self.view_is) c.next-result.ensures.at_end

pub returns-then-gives_marker-clause-reads : goal.returns-then-gives_marker-clause-reads
returns-then-gives_marker-clause-reads g c = rw (← c.self.view_is) c.next-result.ensures.reads

pub returns-then-gives_marker-clause-again : goal.returns-then-gives_marker-clause-again
returns-then-gives_marker-clause-again g c = rw (← c.self.view_is) c.next-result.ensures.again

pub returns-then-gives_marker-clause-at_end : goal.returns-then-gives_marker-clause-at_end
returns-then-gives_marker-clause-at_end g c = rw (← c.self.view_is) c.next-result.ensures.at_end
