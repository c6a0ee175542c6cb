use Rattle.chess_rules.proofs.Words.{arith, is_some}
use Rattle.chess_rules.proofs.sets.WordsToCells.{is_occupied, marks}
use Rattle.chess_rules.proofs.board.Board.occupied.Goals as goal

pub returns : goal.returns
returns c = marks c.self.inside c.args.self.now _ is_some c.self.view_is (λ i low. grind (arith, is_occupied))
