-- The order of names, and places in it.
use Rattle.pgn_game.proofs.Words.{◌≡◌, ℕ, suc, zero, ◌+◌, ◌<◌, ◌≤◌, Bool, true, false, List, [], ◌∷◌, length, refl, ap, arith, None, Some, insert, take, drop, get_or, bytes_eq, false≢true, AllByRecursion, Pair, has_pair, value_of, comes_before, insert_pair, AllAfter, InOrder, index_of, nat_tests, All-get_or, common_steps, rules}
use Rattle.std.specs.Ordering.{nat_cmp, is_lt, is_some_and}
use Rattle.std.specs.Cmp.Lexicographic.{slice_partial_cmp}
use Rattle.std.proofs.lemmas.Cmp.{same_from_slice_cmp_tested}
use Rattle.pgn_game.proofs.pairs.NameOrder.{before-trans, further_after, absent-pair}
use Rattle.pgn_game.proofs.pairs.ValuesByName.{bytes_eq-true, no_value, pick, value_of-cons}

pub is_comes_before : (xs ys : List ℕ) (r : Bool)
    → r ≡ is_some_and is_lt (slice_partial_cmp (λ x y. Some (nat_cmp x y)) xs ys) → r ≡ comes_before xs ys
is_comes_before =
    same_from_slice_cmp_tested nat_cmp is_lt comes_before refl (λ _ _. refl) (λ _ _. refl) (λ x y xs ys o h. grind (arith, nat_tests))

pub insert-place : (p : Pair) (qs : List Pair) → insert qs (index_of p.name qs) p ≡ insert_pair p qs
insert-place p [] = refl
insert-place p (q ∷ qs) =
    elim (comes_before p.name q.name)
    as (λ b. insert (q ∷ qs) (elim b [ true ↦ 0 | false ↦ 1 + index_of p.name qs ]) p
    ≡ elim b [ true ↦ p ∷ q ∷ qs | false ↦ q ∷ insert_pair p qs ]) [
      | true ↦ refl
      | false ↦
          let next : 1 + index_of p.name qs ≡ suc (index_of p.name qs) = omega arith in
          rw next (ap (λ l. q ∷ l) (insert-place p qs))
    ]

-- what holds of all elements holds of the first and the last of them
pub all-take : {A : Type 0} (P : A → Type 0) (xs : List A) (k : ℕ) → AllByRecursion P xs → AllByRecursion P (take k xs)
all-take P xs k h = grind (arith, common_steps)

pub all-drop : {A : Type 0} (P : A → Type 0) (xs : List A) (k : ℕ) → AllByRecursion P xs → AllByRecursion P (drop k xs)
all-drop P xs k h = grind (arith, common_steps)

pub order-take : (ps : List Pair) (k : ℕ) → InOrder ps → InOrder (take k ps)
order-take ps zero h = tt
order-take [] (suc k) h = tt
order-take (p ∷ ps) (suc k) h = (all-take (λ q. comes_before p.name q.name ≡ true) ps k h.0, order-take ps k h.1)

pub order-drop : (ps : List Pair) (k : ℕ) → InOrder ps → InOrder (drop k ps)
order-drop ps zero h = h
order-drop [] (suc k) h = tt
order-drop (p ∷ ps) (suc k) h = order-drop ps k h.1

-- The index of a name, by one pair among those in order.
abbrev index_if : Bool → ℕ → ℕ
index_if b n = elim b [ true ↦ 0 | false ↦ 1 + n ]

module _ (name : List ℕ) where
  pub index_of-le : (ps : List Pair) → index_of name ps ≤ length ps
  index_of-le [] = omega arith
  index_of-le (q ∷ qs) =
      let rest = index_of-le qs in search rules

  -- it is at most that of a pair with a later name
  pub index-before : (ps : List Pair) (k : ℕ) {p : Pair} → k < length ps → p ≡ get_or ps k p → comes_before name p.name ≡ true → index_of name ps ≤ k
  index-before [] k l e later = absurd (omega arith)
  index-before (q ∷ qs) zero l e later = grind (arith, common_steps)
  index-before (q ∷ qs) (suc k) l e later =
      let rest = index-before qs k (omega arith) e later in search rules

  -- and above that of a pair with no later name
  pub index-behind : (ps : List Pair) (k : ℕ) {p : Pair} → InOrder ps → k < length ps → p ≡ get_or ps k p → comes_before name p.name ≡ false
      → k < index_of name ps
  index-behind [] k h l e early = absurd (omega arith)
  index-behind (q ∷ qs) zero h l e early = grind (arith, common_steps)
  index-behind (q ∷ qs) (suc k) {p} h l e early =
      by_test (index-behind qs k h.1 (omega arith) e early) _ refl
    where
      by_test : k < index_of name qs → (b : Bool) → comes_before name q.name ≡ b → suc k < index_if b (index_of name qs)
      by_test rest b h1 = search (rules, All-get_or, false≢true, before-trans)

  -- a name that comes before all has index 0
  index-first : (qs : List Pair) → AllAfter name qs → index_of name qs ≡ 0
  index-first [] h = refl
  index-first (q ∷ qs) h = cc (h.0)

  -- no pair has a name of index 0
  pub new-first : (ps : List Pair) → InOrder ps → index_of name ps ≡ 0 → has_pair ps name ≡ false
  new-first [] h e = refl
  new-first (q ∷ qs) h e = by_test _ refl e
    where
      by_test : (b : Bool) → comes_before name q.name ≡ b → index_if b (index_of name qs) ≡ 0 → has_pair (q ∷ qs) name ≡ false
      by_test true first is = absent-pair name (q ∷ qs) (first, further_after name q.name qs first h.0)
      by_test false later is = absurd (omega arith)

  -- a name that some pair has is not that of a pair before all of them
  other-name : (q : Pair) (qs : List Pair) (k : ℕ) (b : Bool) → AllAfter q.name qs → index_of name qs ≡ suc k → bytes_eq q.name name ≡ b → b ≡ false
  other-name q qs k b h is e = search (rules, index-first, bytes_eq-true)

  -- the last pair before the index of a name has this name, or none has it
  pub value-behind : (ps : List Pair) (k : ℕ) {p : Pair} → InOrder ps → index_of name ps ≡ suc k → p ≡ get_or ps k p
      → value_of ps name ≡ pick (bytes_eq p.name name) p.value None
  value-behind [] k h is e = absurd (omega arith)
  value-behind (q ∷ qs) zero {p} h is e = by_test _ refl is
    where
      by_test : (b : Bool) → comes_before name q.name ≡ b → index_if b (index_of name qs) ≡ 1
          → value_of (q ∷ qs) name ≡ pick (bytes_eq p.name name) p.value None
      by_test b h1 is = search (rules, value_of-cons, no_value, new-first)
  value-behind (q ∷ qs) (suc k) {p} h is e = by_test (λ at. value-behind qs k h.1 at e) _ refl is
    where
      by_test : (index_of name qs ≡ suc k → value_of qs name ≡ pick (bytes_eq p.name name) p.value None) → (b : Bool)
          → comes_before name q.name ≡ b → index_if b (index_of name qs) ≡ suc (suc k)
          → value_of (q ∷ qs) name ≡ pick (bytes_eq p.name name) p.value None
      by_test rest true first is = absurd (omega arith)
      by_test rest false later is =
          let at : index_of name qs ≡ suc k = omega arith in
          let other = other-name q qs k (bytes_eq q.name name) h.0 at refl in search (rules, value_of-cons)
