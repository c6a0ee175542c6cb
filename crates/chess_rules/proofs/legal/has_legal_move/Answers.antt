use Rattle.chess_rules.proofs.Words.{Parts, None, is_check, other, pair_count, has_legal_move, count_king_steps, count_untried, has_king_step, has_untried_move, is_position, Bits, has, members, ◌≡◌, ℕ, ◌+◌, ◌≤◌, true, not, ◌||◌, sym, ◌∙◌, ap, arith, list_any, sum_by, common_steps}
use Rattle.chess_rules.proofs.moves.PlainStepAttacks.{none_when_not}
use Rattle.chess_rules.proofs.positions.RulesOfPosition.{sound_from_position}
use Rattle.chess_rules.proofs.moves.CheckStays.{check_met, none_elsewhere}
use Rattle.chess_rules.proofs.trying.PairCounts.{pair_count_parts, pair_count_most}
use Rattle.chess_rules.proofs.trying.LegalIsTried.{legal_move_found}
use Rattle.chess_rules.proofs.trying.SetsToPairs.{any_both, sum_both_sets}
use Rattle.chess_rules.proofs.legal.has_legal_move.Goals as goal

-- the king's steps, and the other pairs of the targets in a set and of all others
record Searches (p : Parts) (w r : ℕ) : Type 0 where
  found : has_legal_move p ≡ (has_king_step p || (list_any (has_untried_move p) (members w) || list_any (has_untried_move p) (members r)))
  count : pair_count p ≡ count_king_steps p + (sum_by (count_untried p) (members w) + sum_by (count_untried p) (members r))
  most : pair_count p ≤ 1024

searches : (p : Parts) (w r : ℕ) → is_position p ≡ true → Bits r (λ i. not (has w i)) → Searches p w r
searches p w r position rest =
    grind (
      arith,
      common_steps,
      legal_move_found,
      has_king_step,
      any_both,
      has_untried_move,
      pair_count_parts,
      sound_from_position,
      count_king_steps,
      sum_both_sets,
      count_untried,
      pair_count_most,
    )

pub has_king_step-requires : goal.has_king_step-requires
has_king_step-requires c = grind (arith, pair_count_parts, sound_from_position, pair_count_most)

pub returns-then-has_king_step-clause-found : goal.returns-then-has_king_step-clause-found
returns-then-has_king_step-clause-found c = grind (arith, legal_move_found)

pub returns-then-has_king_step-clause-most : goal.returns-then-has_king_step-clause-most
returns-then-has_king_step-clause-most c = grind (arith, pair_count_parts, sound_from_position, pair_count_most)

pub has_other_move_to-requires : goal.has_other_move_to-requires
has_other_move_to-requires c =
    let s = searches c.args.position.now c.evasion_targets-first.result c.not-others.result c.recall_invariant.ensures c.not-others.ensures in
    omega (arith, c.has_king_step.ensures.count.all c.if-has_king_step.false)

pub rule_out_moves_to-requires-clause-none : goal.rule_out_moves_to-requires-clause-none
rule_out_moves_to-requires-clause-none c = grind (arith, common_steps, is_check, none_when_not, none_elsewhere, check_met, other)

pub rule_out_moves_to-requires-clause-room : goal.rule_out_moves_to-requires-clause-room
rule_out_moves_to-requires-clause-room c =
    let s = searches c.args.position.now c.evasion_targets-first.result c.not-others.result c.recall_invariant.ensures c.not-others.ensures in
    omega (
      arith,
      c.has_king_step.ensures.count.all c.if-has_king_step.false,
      c.has_other_move_to.ensures.count.all c.if-has_other_move_to.false,
    )

pub has_other_move_to-requires-2 : goal.has_other_move_to-requires-2
has_other_move_to-requires-2 c =
    let s = searches c.args.position.now c.evasion_targets-first.result c.not-others.result c.recall_invariant.ensures c.not-others.ensures in
    omega (
      arith,
      c.has_king_step.ensures.count.all c.if-has_king_step.false,
      c.has_other_move_to.ensures.count.all c.if-has_other_move_to.false,
    )

pub returns-then-has_other_move_to-clause-found : goal.returns-then-has_other_move_to-clause-found
returns-then-has_other_move_to-clause-found c =
    let s = searches c.args.position.now c.evasion_targets-first.result c.not-others.result c.recall_invariant.ensures c.not-others.ensures in
    let found = s.found in
    grind arith

pub returns-then-has_other_move_to-clause-most : goal.returns-then-has_other_move_to-clause-most
returns-then-has_other_move_to-clause-most c =
    let s = searches c.args.position.now c.evasion_targets-first.result c.not-others.result c.recall_invariant.ensures c.not-others.ensures in
    omega (arith, c.has_king_step.ensures.count.all c.if-has_king_step.false)

pub returns-then-is_none-clause-found : goal.returns-then-is_none-clause-found
returns-then-is_none-clause-found c =
    let p = c.args.position.now in
    let s = searches p c.evasion_targets-first.result c.not-others.result c.recall_invariant.ensures c.not-others.ensures in
    let check : is_check p ≡ true = sym c.is_checked.ensures ∙ c.if-is_checked.true in
    let no_target : p.target ≡ None = sym c.target.ensures ∙ none_when_not c.target.result (c.is_none.ensures ∙ ap not c.if-is_none.true) in
    let none = none_elsewhere p c.evasion_targets-first.result c.recall_invariant.ensures check no_target
    (check_met p c.board.result.now c.other.result c.king.result c.evasion_targets-first.result c.recall_invariant.ensures check
    c.board.ensures (c.other.ensures ∙ ap other c.side.ensures) c.king.ensures c.evasion_targets-first.ensures)
    c.not-others.result c.not-others.ensures in
    let found = s.found in
    grind arith

pub returns-then-is_none-clause-most : goal.returns-then-is_none-clause-most
returns-then-is_none-clause-most c =
    let s = searches c.args.position.now c.evasion_targets-first.result c.not-others.result c.recall_invariant.ensures c.not-others.ensures in
    omega (
      arith,
      c.has_king_step.ensures.count.all c.if-has_king_step.false,
      c.has_other_move_to.ensures.count.all c.if-has_other_move_to.false,
    )

pub returns-then-is_none-clause-all : goal.returns-then-is_none-clause-all
returns-then-is_none-clause-all c none =
    let s = searches c.args.position.now c.evasion_targets-first.result c.not-others.result c.recall_invariant.ensures c.not-others.ensures in
    omega (
      arith,
      c.has_king_step.ensures.count.all c.if-has_king_step.false,
      c.has_other_move_to.ensures.count.all c.if-has_other_move_to.false,
    )

pub returns-clause-found : goal.returns-clause-found
returns-clause-found c =
    let s = searches c.args.position.now c.evasion_targets-first.result c.not-others.result c.recall_invariant.ensures c.not-others.ensures in
    let found = s.found in
    grind arith

pub returns-clause-most : goal.returns-clause-most
returns-clause-most c =
    let s = searches c.args.position.now c.evasion_targets-first.result c.not-others.result c.recall_invariant.ensures c.not-others.ensures in
    omega (
      arith,
      c.has_king_step.ensures.count.all c.if-has_king_step.false,
      c.has_other_move_to.ensures.count.all c.if-has_other_move_to.false,
    )

pub returns-clause-all : goal.returns-clause-all
returns-clause-all c none =
    let s = searches c.args.position.now c.evasion_targets-first.result c.not-others.result c.recall_invariant.ensures c.not-others.ensures in
    omega (
      arith,
      c.has_king_step.ensures.count.all c.if-has_king_step.false,
      c.has_other_move_to.ensures.count.all c.if-has_other_move_to.false,
      c.has_other_move_to-2.ensures.count.all none,
    )
