use Rattle.chess_rules.proofs.Words.{is_clear, may_attack, ◌∙◌, sym, arith, common_steps}
use Rattle.chess_rules.proofs.lines.AttackToReach.{attacked_is}
use Rattle.chess_rules.proofs.sets.SetsToSquares.{any_member}
use Rattle.chess_rules.proofs.attack.is_attacked.Goals as goal

pub is_attacked_by-requires : goal.is_attacked_by-requires
is_attacked_by-requires c = grind (arith, common_steps)

pub returns : goal.returns
returns c =
    let b = c.args.board.now in
    let t = c.args.target in
    c.is_attacked_by.ensures
    ∙ sym (attacked_is b c.args.by t
    ∙ any_member c.possible_attackers.result (may_attack b c.args.by t) (λ s. is_clear b s t) c.possible_attackers.ensures)
