use Rattle.chess_rules.proofs.lines.LinesToBetween.{between_places}
use Rattle.chess_rules.proofs.geometry.between.Goals as goal

pub returns : goal.returns
returns c =
    between_places c.args.from c.args.to c.index.result c.index-2.result _
    c.index.ensures.again c.index-2.ensures.again c.index.ensures.below c.index-2.ensures.below c.of_bits.ensures
