use Rattle.pgn_sections.proofs.Words.{refl, arith, common_steps}
use Rattle.pgn_sections.proofs.LinesOfReader.{found_so_far, found_stays, reads_piece}
use Rattle.pgn_sections.proofs.search.SectionSearch.feed.Goals as goal

pub returns-clause-reads : goal.returns-clause-reads
returns-clause-reads c = grind (arith, common_steps, reads_piece)

pub returns-clause-place : goal.returns-clause-place
returns-clause-place c = found_so_far c.over-self-inside.result

pub returns-clause-stays : goal.returns-clause-stays
returns-clause-stays c = found_stays c.over-self-inside.result _ refl
