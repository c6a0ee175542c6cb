use Rattle.chess_rules.proofs.Words.{arith}
use Rattle.chess_rules.proofs.sets.WordsToCells.{kind_places}
use Rattle.chess_rules.proofs.board.Board.of_kind.Goals as goal

pub returns-in-King : goal.returns-in-King
returns-in-King c = kind_places c.self.inside c.args.self.now c.args.kind _ c.self.view_is c.self.invariant (λ i low. grind arith)

pub returns-in-Queen : goal.returns-in-Queen
returns-in-Queen c = kind_places c.self.inside c.args.self.now c.args.kind _ c.self.view_is c.self.invariant (λ i low. grind arith)

pub returns-in-Rook : goal.returns-in-Rook
returns-in-Rook c = kind_places c.self.inside c.args.self.now c.args.kind _ c.self.view_is c.self.invariant (λ i low. grind arith)

pub returns-in-Bishop : goal.returns-in-Bishop
returns-in-Bishop c = kind_places c.self.inside c.args.self.now c.args.kind _ c.self.view_is c.self.invariant (λ i low. grind arith)

pub returns-in-Knight : goal.returns-in-Knight
returns-in-Knight c = kind_places c.self.inside c.args.self.now c.args.kind _ c.self.view_is c.self.invariant (λ i low. grind arith)

pub returns-in-Pawn : goal.returns-in-Pawn
returns-in-Pawn c = kind_places c.self.inside c.args.self.now c.args.kind _ c.self.view_is c.self.invariant (λ i low. grind arith)
