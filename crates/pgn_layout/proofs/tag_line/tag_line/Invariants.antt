use Rattle.pgn_layout.proofs.Words.{◌≡◌, [], ◌∷◌, ◌++◌, take, escaped}
use Rattle.pgn_layout.proofs.tag_line.tag_line.Given as goal

abbrev pub invariant-loop-byte : goal.invariant-loop-byte
invariant-loop-byte l = l.line.items ≡ (91 ∷ l.name) ++ 32 ∷ 34 ∷ [] ++ escaped (take l.byte-index l.value)
