use Rattle.chess_rules.proofs.Words.{code_reaches, word, refl, arith}
use Rattle.chess_rules.proofs.sets.TablesOfSquares.{mask, mask_to, table_of_pairs}
use Rattle.chess_rules.proofs.geometry.origins_by_code.Goals as goal

pub returns : goal.returns
unfolding mask_to mask word
returns c =
    table_of_pairs code_reaches _ 512 c.args.target c.args.code c.index.result _ refl c.of_bits.ensures (omega (arith, c.requires, c.index.ensures.below))
    c.index.ensures.below c.index.ensures.again
