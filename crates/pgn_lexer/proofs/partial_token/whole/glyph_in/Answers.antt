use Rattle.pgn_lexer.proofs.Words.{arith, rules, common_steps}
use Rattle.pgn_lexer.proofs.stepping.WholeRuns.{dollar_begun, glyph_first, glyph_more, longer_is, whole_glyph}
use Rattle.pgn_lexer.proofs.partial_token.whole.glyph_in.Goals as goal

pub loop-length-init : goal.loop-length-init
loop-length-init c = search (rules, glyph_first, dollar_begun)

pub returns-then-not-is_in-2 : goal.returns-then-not-is_in-2
returns-then-not-is_in-2 c = search (rules, whole_glyph)

pub loop-length-preserved : goal.loop-length-preserved
loop-length-preserved c = grind (arith, common_steps, longer_is, glyph_more)
