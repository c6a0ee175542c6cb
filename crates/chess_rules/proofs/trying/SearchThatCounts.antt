-- A search that counts, step by step.
use Rattle.chess_rules.proofs.Words.{Square, members, HasNone, Counts, ◌≡◌, ℕ, ◌+◌, ◌<◌, ◌≤◌, Bool, true, false, List, TakesLowest, common_steps, ◌∷◌, length, ◌∙◌, ap, arith, list_any, sum_by, sum_by-cons}

pub counts_exactly : (found : Bool) (old new whole : ℕ) → (found ≡ true → 0 < whole) → new ≡ old + whole → Counts found old new whole
counts_exactly found old new whole one h = grind arith

-- The squares of a list, one by one, while a set has those that are left.

module _ (test : Square → Bool) (whole : List Square) where
  -- no member so far passed, each was counted, and these are left
  pub record LeftOf (left old now : ℕ) : Type 0 where
    pub rises : old ≤ now
    pub counted : now + length (members left) ≡ old + length whole
    pub same : list_any test (members left) ≡ list_any test whole

  module _ (left rest old now : ℕ) (s : Square) (next : members left ≡ s ∷ members rest) (w : LeftOf left old now) where
    pub left_fits : (limit : ℕ) → old + length whole < limit → now + 1 < limit
    left_fits limit room = omega (arith, room, w.counted, ap length next)

    pub fewer_left : (later : ℕ) → test s ≡ false → later ≡ now + 1 → LeftOf rest old later
    fewer_left later misses one = grind arith

    pub left_hit : (later : ℕ) → test s ≡ true → later ≡ now + 1 → (true ≡ list_any test whole) × Counts true old later (length whole)
    left_hit later passes one = grind arith

  pub none_left : (left old now : ℕ) → LeftOf left old now → HasNone left
      → (false ≡ list_any test whole) × Counts false old now (length whole)
  none_left left old now w none = grind (arith, common_steps)

-- The same, where a member costs some pairs.

module _ (test : Square → Bool) (cost : Square → ℕ) (whole : List Square) where
  pub record TargetsLeft (left old now : ℕ) : Type 0 where
    pub rises : old ≤ now
    pub counted : now + sum_by cost (members left) ≡ old + sum_by cost whole
    pub same : list_any test (members left) ≡ list_any test whole

module _ {test : Square → Bool} {cost : Square → ℕ} {whole : List Square} {left old now : ℕ} (w : TargetsLeft test cost whole left old now) where
  module _ {rest : ℕ} {s : Square} (taken : TakesLowest left rest s) where
    next_counted : sum_by cost (members left) ≡ cost s + sum_by cost (members rest)
    next_counted = ap (sum_by cost) taken.next ∙ sum_by-cons cost s (members rest)

    pub target_fits : (limit : ℕ) → old + sum_by cost whole < limit → now + cost s < limit
    target_fits limit room = omega (arith, room, w.counted, next_counted)

    pub fewer_targets : {hit : Bool} {later : ℕ} → hit ≡ test s → hit ≡ false
        → Counts hit now later (cost s) → TargetsLeft test cost whole rest old later
    fewer_targets tested misses more = grind (arith, common_steps, next_counted)

    pub target_hit : {hit : Bool} {later : ℕ} → hit ≡ test s → hit ≡ true → Counts hit now later (cost s)
        → (true ≡ list_any test whole) × Counts true old later (sum_by cost whole)
    target_hit tested passes more = grind (arith, common_steps)

  pub no_target : HasNone left → (false ≡ list_any test whole) × Counts false old now (sum_by cost whole)
  no_target none = grind (arith, common_steps, counts_exactly)

-- The same, where the members are only counted.

-- each member so far was counted, and these are left
pub record CountsLeft (cost : Square → ℕ) (whole : List Square) (left old now : ℕ) : Type 0 where
  pub counted : now + sum_by cost (members left) ≡ old + sum_by cost whole

pub next_counts : {cost : Square → ℕ} {whole : List Square} {left rest old now : ℕ} {s : Square} → TakesLowest left rest s
    → CountsLeft cost whole left old now → now + (cost s + sum_by cost (members rest)) ≡ old + sum_by cost whole
next_counts {cost} {rest = rest} {s = s} taken w = omega (arith, w.counted, ap (sum_by cost) taken.next, sum_by-cons cost s (members rest))
