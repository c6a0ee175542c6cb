use Rattle.pgn_c.proofs.Words.{◌≡◌, ◌+◌, drop, to_brace}
use Rattle.pgn_c.proofs.move_numbers.length_to_brace.Given as goal

abbrev pub invariant-loop-index : goal.invariant-loop-index
invariant-loop-index l = to_brace l.text ≡ l.index + to_brace (drop l.index l.text)
