use Rattle.pgn_game.specs.steps.SectionPairs.{IsPassing}
use Rattle.pgn_game.proofs.section.nth_pair.Given as goal

abbrev pub invariant-loop-at : goal.invariant-loop-at
invariant-loop-at l = IsPassing l.has_fen l.pairs l.index l.at l.left
