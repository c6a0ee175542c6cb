use Rattle.pgn_lexer.proofs.Words.{◌<◌, ◌≤◌, ◌-◌, length}
use Rattle.pgn_lexer.proofs.stepping.WholeRuns.{GlyphSoFar}
use Rattle.pgn_lexer.proofs.partial_token.whole.glyph_in.Given as goal

abbrev pub invariant-loop-length : goal.invariant-loop-length
invariant-loop-length l = record {
  some : 0 < l.length;
  small : l.number ≤ 255;
  so : GlyphSoFar l.piece l.length l.number;
}

abbrev pub decreases-loop-length : goal.decreases-loop-length
decreases-loop-length l = length l.piece - l.length
