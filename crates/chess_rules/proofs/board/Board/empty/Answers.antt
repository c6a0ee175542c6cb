use Rattle.chess_rules.proofs.Words.{has, cells, word, refl}
use Rattle.chess_rules.proofs.board.Board.empty.Goals as goal

pub invariant_of-result : goal.invariant_of-result
unfolding has cells word
invariant_of-result c = rw c.of_bits-none.ensures refl

pub returns : goal.returns
unfolding has cells
returns c = rw c.of_bits-none.ensures refl
