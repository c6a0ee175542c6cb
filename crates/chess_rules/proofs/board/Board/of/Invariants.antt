use Rattle.chess_rules.proofs.Words.{◌≡◌, ◌*◌, ◌-◌, ◌++◌, drop, replicate, None}
use Rattle.chess_rules.proofs.board.Board.of.Given as goal

-- the ranks above are on the board, and the others are empty
abbrev pub invariant-loop-above : goal.invariant-loop-above
invariant-loop-above l = l.board ≡ drop (64 - 8 * l.above) l.contents ++ replicate (64 - 8 * l.above) None
