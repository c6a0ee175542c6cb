use Rattle.chess_rules.proofs.Words.{other, is_attacked, king_square, ◌≡◌, ◌∙◌, ap, ap₂, subst, IfSome}
use Rattle.chess_rules.proofs.positions.RulesOfPosition.{stored}
use Rattle.chess_rules.proofs.moves.LegalToPosition.{legal_unless_attacked}
use Rattle.chess_rules.proofs.position.Position.is_safe_on_board.Goals as goal

pub returns : goal.returns
returns c =
    let p = c.args.self.now in
    let s = stored c.self.inside p c.self.invariant c.self.view_is in
    legal_unless_attacked p c.args.mv.now c.board_after-board.result
    c.is_attacked.result s.position c.requires.kind.on_board c.board_after-board.ensures
    (c.is_attacked.ensures
    ∙ ap₂ (λ d k. is_attacked c.board_after-board.result d k) (c.other.ensures ∙ ap other s.side)
    (subst (λ o. IfSome o (λ b. c.king_after.result ≡ king_square p.side b)) c.board_after-board.ensures c.king_after.ensures))
