use Rattle.chess_rules.proofs.Words.{Colour, Board, Square, cell_of, square_at, is_clear, is_attacked, strictly_between, may_attack, has, Places, Bits, HasNone, IsFirst, ◌≡◌, ℕ, ◌<◌, true, ◌&&◌, ◌||◌, sym, ◌∙◌, arith, or_left, or_right, false≢true, HasAttacker, common_steps}
use Rattle.chess_rules.proofs.sets.AllSquares.{Passes, some_square, cell_of-square_at}
use Rattle.chess_rules.proofs.sets.SetsToSquares.{at_square}
use Rattle.chess_rules.proofs.lines.AttackToReach.{attacked_is, attacker_is}
use Rattle.chess_rules.proofs.attack.evasion_targets.Goals as goal

module _ (b : Board) (c : Colour) (t : Square) (possible attackers : ℕ) (may : Places possible (may_attack b c t))
    (clear : Places attackers (λ s. has possible (cell_of s) && is_clear b s t)) where
  low : (s : Square) → s.file < 8 → s.rank < 8 → cell_of s < 64
  low s file rank = omega arith

  attackers_are : Places attackers (λ s. may_attack b c t s && is_clear b s t)
  attackers_are = grind (arith, common_steps, low, is_clear, square_at, has, cell_of-square_at)

  none_there : HasNone attackers → is_attacked b c t ≡ true → ⊥
  none_there none h = by_square (some_square (λ s. may_attack b c t s && is_clear b s t) (sym (attacked_is b c t) ∙ h))
    where
      by_square : Passes (λ s. may_attack b c t s && is_clear b s t) → ⊥
      by_square w =
          false≢true (sym (none.of (cell_of w.on) (low w.on w.file w.rank))
          ∙ (at_square attackers (λ s. may_attack b c t s && is_clear b s t) w.on attackers_are w.file w.rank ∙ w.holds))

  first_there : (first : Square) (way all : ℕ) → IsFirst attackers first → Places way (λ u. strictly_between first u t)
      → Bits all (λ i. has attackers i || has way i) → HasAttacker b c t all
  first_there first way all is between both = grind (arith, common_steps, attacker_is, at_square, attackers_are, or_left, or_right)

pub returns-in-None : goal.returns-in-None
returns-in-None c h = absurd
    (none_there c.args.board.now c.args.by c.args.target c.possible_attackers.result c.clear_among-attackers.result
    c.possible_attackers.ensures c.clear_among-attackers.ensures c.in-None.ensures h)

pub returns-in-Some : goal.returns-in-Some
returns-in-Some c h =
    first_there c.args.board.now c.args.by c.args.target c.possible_attackers.result c.clear_among-attackers.result
    c.possible_attackers.ensures c.clear_among-attackers.ensures c.in-Some.first c.between.result c.bitor.result
    c.in-Some.ensures c.between.ensures c.bitor.ensures
