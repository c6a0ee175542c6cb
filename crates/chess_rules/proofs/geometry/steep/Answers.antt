use Rattle.chess_rules.proofs.Words.{is_steep}
use Rattle.chess_rules.proofs.sets.TablesOfSquares.{table_places}
use Rattle.chess_rules.proofs.lines.LinesToBetween.{tables}
use Rattle.chess_rules.proofs.geometry.steep.Goals as goal

pub returns : goal.returns
returns c = table_places is_steep _ c.args.target c.index.result _ tables.1.1 c.of_bits.ensures c.index.ensures.below c.index.ensures.again
