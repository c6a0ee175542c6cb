use Rattle.pgn_c.proofs.Words.{◌≡◌, ◌+◌, drop, prefix_len, is_suffix}
use Rattle.pgn_c.proofs.move_numbers.suffix_length.Given as goal

abbrev pub invariant-loop-index : goal.invariant-loop-index
invariant-loop-index l = prefix_len is_suffix l.text ≡ l.index + prefix_len is_suffix (drop l.index l.text)
