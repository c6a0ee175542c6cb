use Rattle.chess_rules.proofs.Words.{in_line}
use Rattle.chess_rules.proofs.sets.TablesOfSquares.{table_places}
use Rattle.chess_rules.proofs.lines.LinesToBetween.{tables}
use Rattle.chess_rules.proofs.geometry.rank_and_file.Goals as goal

pub returns : goal.returns
returns c = table_places in_line _ c.args.target c.index.result _ tables.0 c.of_bits.ensures c.index.ensures.below c.index.ensures.again
