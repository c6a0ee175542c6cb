use Rattle.chess_text.proofs.Words.{◌≡◌, ℕ, ◌<◌, false, get_or, is_space}
use Rattle.chess_text.proofs.fen.field_length.Given as goal

-- no space so far
abbrev pub invariant-loop-i : goal.invariant-loop-i
invariant-loop-i l = (k : ℕ) → k < l.i → is_space (get_or l.text k 0) ≡ false
