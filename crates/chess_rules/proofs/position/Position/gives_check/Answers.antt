use Rattle.chess_rules.proofs.Words.{is_clear, may_attack, slides, squares, step_kind, Plain, list_any, ◌≡◌, ◌&&◌, sym, ◌∙◌, ap, arith, common_steps, rules}
use Rattle.chess_rules.proofs.positions.RulesOfPosition.{stored}
use Rattle.chess_rules.proofs.sets.AllSquares.{first_true}
use Rattle.chess_rules.proofs.sets.SetsToSquares.{any_member}
use Rattle.chess_rules.proofs.moves.PlainStepAttacks.{arrived_own, check_along_line, check_by_piece, check_is_seen, no_check_when_plain}
use Rattle.chess_rules.proofs.position.Position.gives_check.Goals as goal

pub returns-then-not-matches : goal.returns-then-not-matches
returns-then-not-matches c = grind (arith, common_steps, stored, check_is_seen)

pub attacks_from-requires : goal.attacks_from-requires
attacks_from-requires c = search (rules, stored, arrived_own)

pub returns-then-attacks_from : goal.returns-then-attacks_from
returns-then-attacks_from c =
    let p = c.args.self.now in
    let s = stored c.self.inside p c.self.invariant c.self.view_is in
    let plain : step_kind p c.args.mv.now ≡ Plain = grind arith in
    sym (check_by_piece p c.args.mv.now c.args.board.now c.self.inside.other_king s.position c.requires.kind.on_board c.requires.step plain s.other_king
    (sym c.attacks_from.ensures ∙ c.if-attacks_from.true))

pub returns-then-not-is_aligned : goal.returns-then-not-is_aligned
returns-then-not-is_aligned c =
    let p = c.args.self.now in
    let s = stored c.self.inside p c.self.invariant c.self.view_is in
    let plain : step_kind p c.args.mv.now ≡ Plain = grind arith in
    sym (no_check_when_plain p c.args.mv.now c.args.board.now c.self.inside.other_king s.position c.requires.kind.on_board c.requires.step plain s.other_king
    (sym c.attacks_from.ensures ∙ c.if-attacks_from.false)
    (sym c.is_aligned.ensures ∙ c.if-not-is_aligned.true))

pub is_attacked_by-requires : goal.is_attacked_by-requires
is_attacked_by-requires c = record {
  by = c.self.inside.side;
  which = slides c.args.board.now c.self.inside.side c.self.inside.other_king;
  places = c.sliders.ensures;
  attack = λ s h. first_true (may_attack c.args.board.now c.self.inside.side c.self.inside.other_king s) _ h;
}

pub returns : goal.returns
returns c =
    let p = c.args.self.now in
    let b = c.args.board.now in
    let k = c.self.inside.other_king in
    let s = stored c.self.inside p c.self.invariant c.self.view_is in
    let plain : step_kind p c.args.mv.now ≡ Plain = grind arith in
    c.is_attacked_by.ensures
    ∙ (sym (any_member c.sliders.result (slides b c.self.inside.side k) (λ u. is_clear b u k) c.sliders.ensures)
    ∙ (ap (λ d. list_any (λ u. slides b d k u && is_clear b u k) squares) s.side
    ∙ sym (check_along_line p c.args.mv.now b k s.position c.requires.kind.on_board c.requires.step plain s.other_king
    (sym c.attacks_from.ensures ∙ c.if-attacks_from.false))))
