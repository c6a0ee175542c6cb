use Rattle.chess_rules.proofs.Words.{is_adjacent, word, refl}
use Rattle.chess_rules.proofs.sets.TablesOfSquares.{mask, mask_to, table_places}
use Rattle.chess_rules.proofs.geometry.adjacent.Goals as goal

pub returns : goal.returns
unfolding mask_to mask word
returns c = table_places is_adjacent _ c.args.target c.index.result _ refl c.of_bits.ensures c.index.ensures.below c.index.ensures.again
