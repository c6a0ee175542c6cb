use Rattle.pgn_game.proofs.Words.{◌-◌, ◌≤◌, index_of, length}
use Rattle.pgn_game.proofs.ordered.index_of.Given as goal

abbrev pub invariant-loop-low : goal.invariant-loop-low
invariant-loop-low l = (l.low ≤ index_of l.name l.pairs) × (index_of l.name l.pairs ≤ l.high) × (l.high ≤ length l.pairs)

abbrev pub decreases-loop-low : goal.decreases-loop-low
decreases-loop-low l = l.high - l.low
