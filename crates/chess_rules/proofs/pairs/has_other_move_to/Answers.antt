use Rattle.chess_rules.proofs.Words.{Parts, Square, Counts, has_untried_move, count_untried, is_untried, is_legal_pair, Places, members, ◌≡◌, ℕ, Bool, length, ◌∙◌, ap, subst, arith, list_any, common_steps}
use Rattle.chess_rules.proofs.trying.SetsToPairs.{untried_are, untried_counted}
use Rattle.chess_rules.proofs.trying.SearchThatCounts.{target_fits, fewer_targets, target_hit, no_target}
use Rattle.chess_rules.proofs.pairs.has_other_move_to.Goals as goal

-- the origins of one target
module _ (p : Parts) (t : Square) {w : ℕ} (origins : Places w (is_untried p t)) where
  found : {r : Bool} → r ≡ list_any (λ s. is_legal_pair p s t) (members w) → r ≡ has_untried_move p t
  unfolding has_untried_move
  found h = h ∙ ap (list_any (λ s. is_legal_pair p s t)) (untried_are p t w origins)

  counted : {r : Bool} {old new : ℕ} → Counts r old new (length (members w)) → Counts r old new (count_untried p t)
  counted {r} {old} {new} h = subst (Counts r old new) (untried_counted p t w origins) h

pub loop-target-init : goal.loop-target-init
loop-target-init c = grind arith

pub has_move_from-requires : goal.has_move_from-requires
has_move_from-requires c = grind (arith, common_steps, untried_counted, target_fits)

pub returns-then-has_move_from-clause-found : goal.returns-then-has_move_from-clause-found
returns-then-has_move_from-clause-found c =
    (target_hit c.loop-target.invariant c.in-Some.ensures
    (found c.args.position.now c.in-Some.target c.untried.ensures c.has_move_from.ensures.found) c.if-has_move_from.true
    (counted c.args.position.now c.in-Some.target c.untried.ensures c.has_move_from.ensures.count)).0

pub returns-then-has_move_from-clause-count : goal.returns-then-has_move_from-clause-count
returns-then-has_move_from-clause-count c =
    (target_hit c.loop-target.invariant c.in-Some.ensures
    (found c.args.position.now c.in-Some.target c.untried.ensures c.has_move_from.ensures.found) c.if-has_move_from.true
    (counted c.args.position.now c.in-Some.target c.untried.ensures c.has_move_from.ensures.count)).1

pub loop-target-smaller : goal.loop-target-smaller
loop-target-smaller c = omega (arith, ap length c.in-Some.ensures.next)

pub loop-target-preserved : goal.loop-target-preserved
loop-target-preserved c =
    fewer_targets c.loop-target.invariant c.in-Some.ensures
    (found c.args.position.now c.in-Some.target c.untried.ensures c.has_move_from.ensures.found) c.if-has_move_from.false
    (counted c.args.position.now c.in-Some.target c.untried.ensures c.has_move_from.ensures.count)

pub returns-clause-found : goal.returns-clause-found
returns-clause-found c = (no_target c.loop-target.invariant c.in_default.ensures.none).0

pub returns-clause-count : goal.returns-clause-count
returns-clause-count c = (no_target c.loop-target.invariant c.in_default.ensures.none).1
