use Rattle.pgn_c.proofs.Words.{◌≡◌, ◌+◌, drop, name_length}
use Rattle.pgn_c.proofs.tag.name_length.Given as goal

-- the bytes so far can be in a name
abbrev pub invariant-loop-index : goal.invariant-loop-index
invariant-loop-index l = name_length l.text ≡ l.index + name_length (drop l.index l.text)
