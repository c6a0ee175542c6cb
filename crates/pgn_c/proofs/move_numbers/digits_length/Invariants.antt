use Rattle.pgn_c.proofs.Words.{◌≡◌, ◌+◌, drop, prefix_len, is_digit}
use Rattle.pgn_c.proofs.move_numbers.digits_length.Given as goal

abbrev pub invariant-loop-index : goal.invariant-loop-index
invariant-loop-index l = prefix_len is_digit l.text ≡ l.index + prefix_len is_digit (drop l.index l.text)
