use Rattle.pgn_game.proofs.Words.{arith, refl, rules}
use Rattle.pgn_game.proofs.pairs.SectionByIndex.{all_passed, first_pair, is_sought, passes_one}
use Rattle.pgn_game.proofs.section.nth_pair.Goals as goal

pub loop-at-init : goal.loop-at-init
loop-at-init c = record { count = omega arith; same = refl }

pub returns-in-None : goal.returns-in-None
returns-in-None c = search (rules, first_pair, is_sought)

pub loop-at-preserved : goal.loop-at-preserved
loop-at-preserved c = search (rules, first_pair, passes_one)

pub returns : goal.returns
returns c = all_passed _ _ _ _ _ c.loop-at.invariant (omega (arith, c.len-at-end.ensures.length, c.loop-at-test.false))
