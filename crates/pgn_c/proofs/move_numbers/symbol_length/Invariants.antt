use Rattle.pgn_c.proofs.Words.{◌≡◌, ◌≤◌, ◌+◌, ◌-◌, drop, length, prefix_len, continues_symbol}
use Rattle.pgn_c.proofs.move_numbers.symbol_length.Given as goal

abbrev pub invariant-loop-end : goal.invariant-loop-end
invariant-loop-end l = record {
  within : l.end ≤ length l.text;
  run : prefix_len continues_symbol l.text ≡ l.end + prefix_len continues_symbol (drop l.end l.text);
}

abbrev pub decreases-loop-end : goal.decreases-loop-end
decreases-loop-end l = length l.text - l.end
