use Rattle.pgn_sections.proofs.Words.{◌≡◌, ◌≤◌, drop, line_begun, line_over}
use Rattle.pgn_sections.proofs.bad_game.BadGame.line_of.Given as goal

-- the rest of the bytes goes on from the line so far
abbrev pub invariant-loop-byte : goal.invariant-loop-byte
invariant-loop-byte l =
    record {
      line : line_over (line_begun l.self) l.bytes ≡ line_over l.line (drop l.byte-index l.bytes);
      at : l.line.at ≡ l.self.at;
      length : l.line.length ≡ l.byte-index;
      tag : l.line.tag.at ≤ l.line.length;
    }
