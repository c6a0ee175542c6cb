use Rattle.chess_rules.proofs.Words.{rules}
use Rattle.chess_rules.proofs.sets.WordsToCells.{cells_put, words_put}
use Rattle.chess_rules.proofs.board.Board.put.Goals as goal

pub invariant_of-self : goal.invariant_of-self
invariant_of-self c = search (rules, words_put)

pub returns : goal.returns
returns c = search (rules, cells_put)
