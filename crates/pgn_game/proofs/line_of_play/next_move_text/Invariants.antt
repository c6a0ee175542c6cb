use Rattle.pgn_game.proofs.Words.{◌≡◌, ◌≤◌, ◌-◌, length, moves_from}
use Rattle.pgn_game.proofs.line_of_play.next_move_text.Given as goal

-- the words so far are move numbers
abbrev pub invariant-loop-word : goal.invariant-loop-word
invariant-loop-word l = (l.from ≤ l.at) × (l.at ≤ length l.text) × (moves_from l.text l.from ≡ moves_from l.text l.at)

abbrev pub decreases-loop-word : goal.decreases-loop-word
decreases-loop-word l = length l.text - l.at
