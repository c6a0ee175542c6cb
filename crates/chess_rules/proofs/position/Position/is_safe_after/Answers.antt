use Rattle.chess_rules.proofs.Words.{Plain, is_aligned, other, slides, squares, step_kind, ◌≡◌, false, not, ◌⊎◌, inl, inr, sym, ◌∙◌, ap, ap₂, arith, list_any}
use Rattle.chess_rules.proofs.sets.SetsToSquares.{full_when}
use Rattle.chess_rules.proofs.positions.RulesOfPosition.{stored}
use Rattle.chess_rules.proofs.moves.PlainStepAttacks.{safe_when_plain}
use Rattle.chess_rules.proofs.moves.KindsOfSteps.{stepped_board}
use Rattle.chess_rules.proofs.position.Position.is_safe_after.Goals as goal
use Rattle.chess_rules.proofs.position.Position.is_safe_after.Goals.{then-not-is_aligned, else-not-is_aligned}

pub returns-then-is_empty : goal.returns-then-is_empty
returns-then-is_empty c =
    let p = c.args.self.now in
    let m = c.args.mv.now in
    let s = stored c.self.inside p c.self.invariant c.self.view_is in
    let plain : step_kind p m ≡ Plain = grind arith in
    let (b, stepped) = stepped_board p m c.requires.step in
    let unseen : (is_aligned m.from c.self.inside.king ≡ false)
    ⊎ (list_any (slides p.board (other p.side) c.self.inside.king) squares ≡ false) =
    elim c.if-not-is_aligned.branch [
      | then-not-is_aligned w ↦ inl (sym c.is_aligned.ensures ∙ w.if-not-is_aligned.true)
      | else-not-is_aligned w ↦
          inr (ap₂ (λ a d. list_any (slides a d c.self.inside.king) squares) (sym s.board) (sym (w.other.ensures ∙ ap other s.side))
          ∙ (sym (full_when w.sliders.result
          (slides c.self.inside.board w.other.result c.self.inside.king) w.is_empty.result w.sliders.ensures w.is_empty.ensures)
          ∙ ap not (sym w.value-is ∙ c.if-is_empty.true)))
    ] in
    c.if-is_empty.true ∙ sym (safe_when_plain p m b c.self.inside.king s.position c.requires.kind.on_board stepped plain s.king
    (sym s.checked ∙ c.if-self.false) (sym c.is.ensures ∙ c.if-is.false) unseen)
