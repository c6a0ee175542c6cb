use Rattle.pgn_layout.proofs.Words.{◌≡◌, ◌+◌, take, length, escaped}
use Rattle.pgn_layout.proofs.tag_line.fits_tag_line.Given as goal

abbrev pub invariant-loop-byte : goal.invariant-loop-byte
invariant-loop-byte l = l.room + length l.name + length (escaped (take l.byte-index l.value)) ≡ 249
