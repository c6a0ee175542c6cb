use Rattle.chess_text.proofs.Words.{◌≡◌, ◌+◌, ◌≤◌, ◌||◌, ◌∙◌, sym, ap₂, arith, length, Bool, Some, true, false, attackers, is_taken_on, one_if, rank_behind, stands_on, common_steps}
use Rattle.chess_text.proofs.keys.EnPassant.{none_behind, none_taken, none_counted, tried_taken, tried_pairs, one_at_most}
use Rattle.chess_text.proofs.key.is_taken_on.Goals.{After-takes_from-east}
use Rattle.chess_text.proofs.key.is_taken_on.Goals as goal

pub returns-in_default-clause-taken : goal.returns-in_default-clause-taken
returns-in_default-clause-taken c = grind (arith, common_steps, none_taken, none_behind)

pub returns-in_default-clause-count : goal.returns-in_default-clause-count
returns-in_default-clause-count c = grind (arith, common_steps, none_counted, none_behind)

-- what both calls find, and count
module _ (c : After-takes_from-east) where
  behind : Some c.in-Some.rank ≡ rank_behind c.args.position.now.side c.args.target.rank
  behind = sym c.in-Some.is ∙ c.rank_behind.ensures ∙ ap₂ rank_behind c.side.ensures c.rank.ensures.value

  taken : (c.takes_from_west-west.result || c.takes_from-east.result) ≡ is_taken_on c.args.position.now c.args.target
  taken = grind (arith, common_steps, tried_taken)

  pairs : c.takes_from-east.new.probes ≡ c.takes_from_west-west.new.probes + one_if (stands_on c.args.position.now c.in-Some.rank (c.args.target.file + 1))
  pairs = grind (arith, common_steps)

  counted : c.takes_from-east.new.probes ≡ c.args.probes.now + length (attackers c.args.position.now c.args.target)
  counted =
      tried_pairs c.args.position.now c.args.target c.in-Some.rank behind _ _ _ c.takes_from_west-west.ensures.count pairs

  few : c.takes_from-east.new.probes ≤ c.args.probes.now + 2
  few = grind (arith, common_steps, one_at_most)

first_true : (w e t : Bool) → w ≡ true → (w || e) ≡ t → w ≡ t
first_true w e t is h = grind arith

first_false : (w e t : Bool) → w ≡ false → (w || e) ≡ t → e ≡ t
first_false w e t is h = grind arith

pub returns-then-west-clause-taken : goal.returns-then-west-clause-taken
returns-then-west-clause-taken c = first_true _ _ _ c.if-west.true (taken (goal.at.returns-then-west-clause-taken c).After-takes_from-east)

pub returns-then-west-clause-count : goal.returns-then-west-clause-count
returns-then-west-clause-count c = counted (goal.at.returns-then-west-clause-count c).After-takes_from-east

pub returns-then-west-clause-few : goal.returns-then-west-clause-few
returns-then-west-clause-few c = few (goal.at.returns-then-west-clause-few c).After-takes_from-east

pub returns-else-west-clause-taken : goal.returns-else-west-clause-taken
returns-else-west-clause-taken c = first_false _ _ _ c.if-west.false (taken (goal.at.returns-else-west-clause-taken c).After-takes_from-east)

pub returns-else-west-clause-count : goal.returns-else-west-clause-count
returns-else-west-clause-count c = counted (goal.at.returns-else-west-clause-count c).After-takes_from-east

pub returns-else-west-clause-few : goal.returns-else-west-clause-few
returns-else-west-clause-few c = few (goal.at.returns-else-west-clause-few c).After-takes_from-east
