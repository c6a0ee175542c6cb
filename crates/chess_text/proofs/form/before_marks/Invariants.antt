use Rattle.chess_text.proofs.Words.{◌≡◌, ◌≤◌, true, length, drop, list_all, is_mark}
use Rattle.chess_text.proofs.form.before_marks.Given as goal

-- what stands from there on are marks
abbrev pub invariant-loop-end : goal.invariant-loop-end
invariant-loop-end l = record { within : l.end ≤ length l.text; marks_alone : list_all is_mark (drop l.end l.text) ≡ true }

abbrev pub decreases-loop-end : goal.decreases-loop-end
decreases-loop-end l = l.end
