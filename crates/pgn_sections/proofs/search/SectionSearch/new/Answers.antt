use Rattle.pgn_sections.proofs.Words.{arith, common_steps}
use Rattle.pgn_sections.proofs.LinesOfReader.{finds_in_all, finds_place}
use Rattle.pgn_sections.proofs.search.SectionSearch.new.Goals as goal

pub returns-clause-found : goal.returns-clause-found
returns-clause-found c = grind (arith, common_steps, finds_place)

pub returns-clause-whole : goal.returns-clause-whole
returns-clause-whole c = grind (arith, common_steps, finds_in_all)
