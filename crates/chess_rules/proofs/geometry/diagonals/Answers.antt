use Rattle.chess_rules.proofs.Words.{on_diagonal}
use Rattle.chess_rules.proofs.sets.TablesOfSquares.{table_places}
use Rattle.chess_rules.proofs.lines.LinesToBetween.{tables}
use Rattle.chess_rules.proofs.geometry.diagonals.Goals as goal

pub returns : goal.returns
returns c = table_places on_diagonal _ c.args.target c.index.result _ tables.1.0 c.of_bits.ensures c.index.ensures.below c.index.ensures.again
