use Rattle.pgn_c.proofs.Words.{◌≡◌, take, has_brace}
use Rattle.pgn_c.proofs.move_numbers.has_brace.Given as goal

abbrev pub invariant-loop-byte : goal.invariant-loop-byte
invariant-loop-byte l = l.found ≡ has_brace (take l.byte-index l.bytes)
