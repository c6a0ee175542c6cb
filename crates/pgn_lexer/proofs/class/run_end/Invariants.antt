use Rattle.pgn_lexer.proofs.Words.{◌≡◌, ℕ, ◌-◌, ◌<◌, ◌≤◌, true, length, get_or, is_in}
use Rattle.pgn_lexer.proofs.class.run_end.Given as goal

abbrev pub invariant-loop-end : goal.invariant-loop-end
invariant-loop-end l = record {
  from : l.from ≤ l.end;
  within : l.end ≤ length l.bytes;
  all : (i : ℕ) → l.from ≤ i → i < l.end → is_in l.set (get_or l.bytes i 0) ≡ true;
}

abbrev pub decreases-loop-end : goal.decreases-loop-end
decreases-loop-end l = length l.bytes - l.end
