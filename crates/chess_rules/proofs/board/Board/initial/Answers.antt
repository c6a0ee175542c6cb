use Rattle.chess_rules.proofs.Words.{has, cells, word, refl}
use Rattle.chess_rules.proofs.board.Board.initial.Goals as goal

pub invariant_of-result : goal.invariant_of-result
unfolding has cells word
invariant_of-result c = rw (c.of_bits.ensures, c.of_bits-2.ensures, c.of_bits-3.ensures, c.of_bits-4.ensures) refl

pub returns : goal.returns
unfolding has cells
returns c = rw (c.of_bits.ensures, c.of_bits-2.ensures, c.of_bits-3.ensures, c.of_bits-4.ensures) refl
