use Rattle.pgn_c.proofs.Words.{◌≡◌, ℕ, ◌+◌, Option, None, Some, drop, length_to_quote, value_length}
use Rattle.pgn_c.proofs.tag.value_length.Given as goal

-- what is found behind so many bytes, counted from the front
abbrev counted_from : ℕ → Option ℕ → Option ℕ
counted_from n None = None
counted_from n (Some m) = Some (n + m)

-- no quote ends the value so far
abbrev pub invariant-loop-index : goal.invariant-loop-index
invariant-loop-index l = value_length l.text ≡ counted_from l.index (length_to_quote l.is_behind_backslash (drop l.index l.text))
