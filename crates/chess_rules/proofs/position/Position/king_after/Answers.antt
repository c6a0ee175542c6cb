use Rattle.chess_rules.proofs.Words.{Move, Parts, Board, Square, is_position, is_on_board, board_after, king_square, ◌≡◌, true, refl, sym, ◌∙◌, ap, Option, None, Some, IfSome, if◌then◌else◌}
use Rattle.chess_rules.proofs.positions.RulesOfPosition.{stored}
use Rattle.chess_rules.proofs.moves.BoardAfterMove.{king_after}
use Rattle.chess_rules.proofs.moves.LegalToPosition.{king_moves}
use Rattle.chess_rules.proofs.position.Position.king_after.Goals as goal

-- the king is where the move leaves it
there : (p : Parts) (m : Move) (k : Square) → is_position p ≡ true → is_on_board m ≡ true
    → k ≡ king_after (king_square p.side p.board) m → IfSome (board_after p m) (λ b. k ≡ king_square p.side b)
there p m k position on is = by_board (board_after p m) refl
  where
    by_board : (o : Option Board) → board_after p m ≡ o → IfSome o (λ b. k ≡ king_square p.side b)
    by_board None e = tt
    by_board (Some b) e = is ∙ king_moves p m b p.side position on e

pub returns-then-is : goal.returns-then-is
returns-then-is c =
    let p = c.args.self.now in
    let m = c.args.mv.now in
    let s = stored c.self.inside p c.self.invariant c.self.view_is in
    there p m _ s.position c.requires
    (ap (λ x. if x then m.to else c.self.inside.king) (sym c.if-is.true ∙ c.is.ensures) ∙ ap (λ k. king_after k m) s.king)

pub returns-else-is : goal.returns-else-is
returns-else-is c =
    let p = c.args.self.now in
    let m = c.args.mv.now in
    let s = stored c.self.inside p c.self.invariant c.self.view_is in
    there p m _ s.position c.requires
    (ap (λ x. if x then m.to else c.self.inside.king) (sym c.if-is.false ∙ c.is.ensures) ∙ ap (λ k. king_after k m) s.king)
