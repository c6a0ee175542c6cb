unfoldable use Rattle.chess_rules.specs.Words.{lanes, word}
use Rattle.chess_text.proofs.Words.{arith, get_or-map-range_with_len, item}
use Rattle.chess_text.proofs.item.item_of.Goals as goal

pub returns : goal.returns
unfolding lanes word
returns c = get_or-map-range_with_len item 0 256 c.args.byte c.args.byte _ c.ranges.byte.fits (omega arith)
