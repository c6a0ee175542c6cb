use Rattle.pgn_c.proofs.Words.{◌≡◌, drop, begins_glyph}
use Rattle.pgn_c.proofs.move_numbers.begins_glyph.Given as goal

abbrev pub invariant-loop-byte : goal.invariant-loop-byte
invariant-loop-byte l = begins_glyph l.text ≡ begins_glyph (drop l.byte-index l.text)
