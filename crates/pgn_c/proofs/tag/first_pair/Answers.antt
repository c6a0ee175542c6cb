use Rattle.pgn_c.proofs.Words.{List, ℕ, Option, sym, ◌∙◌, ap, pair_behind_bracket, first_pair}
use Rattle.pgn_c.proofs.PairsOnLines.{within_if}
use Rattle.pgn_c.proofs.tag.first_pair.Goals as goal

pub returns-in-None-clause-pair : goal.returns-in-None-clause-pair
unfolding first_pair
returns-in-None-clause-pair c = ap (λ (o : Option (List ℕ)). pair_behind_bracket o) (sym c.in-None.ensures)

pub returns-in-Some-clause-pair : goal.returns-in-Some-clause-pair
unfolding first_pair
returns-in-Some-clause-pair c = c.pair_behind_bracket.ensures ∙ ap (λ (o : Option (List ℕ)). pair_behind_bracket o) (sym c.in-Some.ensures)

pub returns-in-Some-clause-within : goal.returns-in-Some-clause-within
returns-in-Some-clause-within c = within_if c.args.text.now c.pair_behind_bracket.result (returns-in-Some-clause-pair c)
