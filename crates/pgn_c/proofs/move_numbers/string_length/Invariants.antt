use Rattle.pgn_c.proofs.Words.{◌≡◌, ◌+◌, drop, false, to_quote}
use Rattle.pgn_c.proofs.move_numbers.string_length.Given as goal

abbrev pub invariant-loop-index : goal.invariant-loop-index
invariant-loop-index l = to_quote false l.text ≡ l.index + to_quote l.is_behind_backslash (drop l.index l.text)
