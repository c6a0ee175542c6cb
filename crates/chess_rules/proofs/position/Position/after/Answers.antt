use Rattle.chess_rules.proofs.Words.{Parts, other, king_attacked, is_position, is_check, after, king_square, parts_of, arith, ◌≡◌, true, false, sym, ◌∙◌, ap, subst, IfSome, rules}
use Rattle.chess_rules.proofs.lines.AttackToReach.{other-other}
use Rattle.chess_rules.proofs.positions.RulesOfPosition.{stored}
use Rattle.chess_rules.proofs.moves.LegalToPosition.{position_after, other_king_stays, legal_when}
use Rattle.chess_rules.proofs.moves.PlainStepAttacks.{step_when_legal}
use Rattle.chess_rules.proofs.position.Position.after.Goals as goal
use Rattle.chess_rules.proofs.position.Position.after.Goals.{in-White, in-Black}

safe : (c : goal.After-king_after) → king_attacked c.board_after-board.result (other (other c.args.self.now.side)) ≡ false
safe c = grind arith

-- the parts that are made
same : (c : goal.After-king_after) → parts_of
    (record { board = c.board_after-board.result; side = c.other.result; rights = c.rights_after.result; target = c.target_after.result; half = c.half_after.result; full = c.match-self.result; king = c.self.inside.other_king; other_king = c.king_after.result; checked = c.gives_check-checked.result })
    ≡ after c.args.self.now c.args.mv.now c.board_after-board.result
same c = search rules

pub invariant_of-result : goal.invariant_of-result
invariant_of-result c =
    let p = c.args.self.now in
    let b = c.board_after-board.result in
    let s = stored c.self.inside p c.self.invariant c.self.view_is in
    let side : c.other.result ≡ other p.side = c.other.ensures ∙ ap other s.side in
    record {
      position = subst (λ (q : Parts). is_position q ≡ true) (sym (same c))
          (position_after p c.args.mv.now b s.position c.requires.kind.on_board c.board_after-board.ensures (safe c));
      king = s.other_king ∙ (other_king_stays p c.args.mv.now b s.position c.requires.kind.on_board c.board_after-board.ensures
          ∙ ap (λ d. king_square d b) (sym side));
      other_king = subst (λ o. IfSome o (λ a. c.king_after.result ≡ king_square p.side a)) c.board_after-board.ensures c.king_after.ensures
          ∙ ap (λ d. king_square d b) (sym (ap other side ∙ other-other p.side));
      checked = c.gives_check-checked.ensures ∙ ap is_check (sym (same c));
    }

pub returns : goal.returns
returns c = search (rules, legal_when, safe)

pub board_after-board-requires-clause-step : goal.board_after-board-requires-clause-step
board_after-board-requires-clause-step c = step_when_legal c.args.self.now c.args.mv.now c.requires.legal
