use Rattle.pgn_game.proofs.Words.{◌≡◌, ◌≤◌, ◌-◌, length, words_from}
use Rattle.pgn_game.proofs.line_of_play.behind_space.Given as goal

-- white space alone so far
abbrev pub invariant-loop-at : goal.invariant-loop-at
invariant-loop-at l = (l.from ≤ l.at) × (l.at ≤ length l.text) × (words_from l.text l.from ≡ words_from l.text l.at)

abbrev pub decreases-loop-at : goal.decreases-loop-at
decreases-loop-at l = length l.text - l.at
