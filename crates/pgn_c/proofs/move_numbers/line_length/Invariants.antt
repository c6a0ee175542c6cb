use Rattle.pgn_c.proofs.Words.{◌≡◌, ◌+◌, drop, to_line_end}
use Rattle.pgn_c.proofs.move_numbers.line_length.Given as goal

abbrev pub invariant-loop-index : goal.invariant-loop-index
invariant-loop-index l = to_line_end l.text ≡ l.index + to_line_end (drop l.index l.text)
