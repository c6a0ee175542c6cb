use Rattle.chess_rules.proofs.Words.{◌≡◌, ◌*◌, ◌+◌, ◌-◌, take, drop}
use Rattle.chess_rules.specs.Words as words
use Rattle.chess_rules.proofs.board.lanes_of_rank.Given as goal

-- the lanes of the files to the right
abbrev pub invariant-loop-right : goal.invariant-loop-right
invariant-loop-right l = l.lanes ≡ words.lanes (take l.right (drop (8 * l.rank + 8 - l.right) l.contents))
