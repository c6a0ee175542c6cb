use Rattle.pgn_c.proofs.Words.{◌≡◌, ◌+◌, ◌-◌, ◌≤◌, drop, length, to_brace}
use Rattle.pgn_c.proofs.move_numbers.length_before_brace.Given as goal

abbrev pub invariant-loop-at : goal.invariant-loop-at
invariant-loop-at l = record {
  within : l.at ≤ length l.text;
  none : to_brace l.text ≡ l.at + to_brace (drop l.at l.text);
}

abbrev pub decreases-loop-at : goal.decreases-loop-at
decreases-loop-at l = length l.text - l.at
