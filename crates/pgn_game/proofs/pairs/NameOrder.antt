-- The order of names is a strict order of all names; and pairs in this order.
use Rattle.pgn_game.proofs.Words.{◌≡◌, ℕ, ◌<◌, ◌⊎◌, inl, inr, Bool, true, false, List, [], ◌∷◌, refl, sym, ap, ◌∙◌, arith, None, Some, le-ltb, lt-ltb, eq-eqb, ◌||◌, ◌&&◌, ◌==◌, nat_lt, bytes_eq, filter, is_some, All-weaker, all_kept_by, none-some, same_Some, false≢true, or_cases, and_parts, ltb-true, eqb-true, cases_order, Pair, value_of, has_pair, comes_before, insert_pair, AreDistinct, AllAfter, InOrder, rules}
use Rattle.pgn_game.proofs.pairs.ValuesByName.{bytes_eq-true, bytes_eq-refl, value_of-cons, not_among, all-insert}

-- Names, byte after byte.
abbrev goes_first : ℕ → ℕ → Bool → Bool
goes_first x y rest = nat_lt x y || ((x == y) && rest)

first_cases : (x y : ℕ) {rest : Bool} → goes_first x y rest ≡ true → (x < y) ⊎ ((x ≡ y) × (rest ≡ true))
first_cases x y e = grind (arith, or_cases, and_parts, ltb-true, eqb-true)

by_byte : (x y : ℕ) (rest : Bool) → x < y → goes_first x y rest ≡ true
by_byte x y rest h = cc (lt-ltb x y h)

by_rest : (x y : ℕ) {rest : Bool} → x ≡ y → rest ≡ true → goes_first x y rest ≡ true
by_rest x y e f = cc (le-ltb x y (omega arith), eq-eqb x y e)

never_itself : (a : List ℕ) → comes_before a a ≡ true → ⊥
never_itself [] e = false≢true e
never_itself (x ∷ xs) e =
    elim (first_cases x x e) [
      | inl h ↦ absurd (omega arith)
      | inr h ↦ never_itself xs h.1
    ]

pub before-trans : (a b c : List ℕ) → comes_before a b ≡ true → comes_before b c ≡ true → comes_before a c ≡ true
before-trans a [] c e f = absurd (false≢true e)
before-trans a (y ∷ ys) [] e f = absurd (false≢true f)
before-trans [] (y ∷ ys) (z ∷ zs) e f = refl
before-trans (x ∷ xs) (y ∷ ys) (z ∷ zs) e f =
    by_cases (before-trans xs ys zs) (first_cases x y e) (first_cases y z f)
  where
    by_cases : (comes_before xs ys ≡ true → comes_before ys zs ≡ true → comes_before xs zs ≡ true)
        → (x < y) ⊎ ((x ≡ y) × (comes_before xs ys ≡ true))
        → (y < z) ⊎ ((y ≡ z) × (comes_before ys zs ≡ true)) → goes_first x z (comes_before xs zs) ≡ true
    by_cases rest h1 h2 = search (rules, by_byte, by_rest)

abbrev Comparable : List ℕ → List ℕ → Type 0
Comparable a b = (comes_before a b ≡ true) ⊎ ((a ≡ b) ⊎ (comes_before b a ≡ true))

comparable-cons : {x y : ℕ} {xs ys : List ℕ} → x ≡ y → Comparable xs ys → Comparable (x ∷ xs) (y ∷ ys)
comparable-cons e h5 = search (rules, by_rest)

comparable : (a b : List ℕ) → Comparable a b
comparable [] [] = inr (inl refl)
comparable [] (y ∷ ys) = inl refl
comparable (x ∷ xs) [] = inr (inr refl)
comparable (x ∷ xs) (y ∷ ys) = search (rules, cases_order, comparable-cons, by_byte, (comparable xs ys))

pub further_after : (name next : List ℕ) (qs : List Pair) → comes_before name next ≡ true → AllAfter next qs → AllAfter name qs
further_after name next qs e h = search (rules, All-weaker, before-trans)

comes_later : (q r : List ℕ) → comes_before q r ≡ false → bytes_eq r q ≡ false → comes_before r q ≡ true
comes_later q r e other = grind (arith, false≢true, bytes_eq-refl, comparable)

pub order-insert : (q : Pair) (qs : List Pair) → has_pair qs q.name ≡ false → InOrder qs → InOrder (insert_pair q qs)
order-insert q [] new h = (tt, tt)
order-insert q (r ∷ rs) new h =
    let apart = not_among r rs _ new in
    by_test (order-insert q rs apart.1 h.1) apart.0 _ refl
  where
    by_test : InOrder (insert_pair q rs) → bytes_eq r.name q.name ≡ false → (b : Bool) → comes_before q.name r.name ≡ b
        → InOrder (elim b [ true ↦ q ∷ r ∷ rs | false ↦ r ∷ insert_pair q rs ])
    by_test rest other b e = search (rules, further_after, all-insert, comes_later)

pub order-filter : (f : Pair → Bool) (qs : List Pair) → InOrder qs → InOrder (filter f qs)
order-filter f [] h = tt
order-filter f (q ∷ qs) h =
    let more = order-filter f qs h.1 in search (rules, all_kept_by)

other_name : (name next : List ℕ) → comes_before name next ≡ true → (b : Bool) → bytes_eq next name ≡ b → b ≡ false
other_name name next h1 b h2 = search (rules, bytes_eq-true, never_itself)

absent : (name : List ℕ) (qs : List Pair) → AllAfter name qs → value_of qs name ≡ None
absent name [] h = refl
absent name (q ∷ qs) h = cc (value_of-cons q qs name, other_name name q.name h.0 (bytes_eq q.name name) refl, absent name qs h.1)

pub absent-pair : (name : List ℕ) (qs : List Pair) → AllAfter name qs → has_pair qs name ≡ false
absent-pair name qs h = ap is_some (absent name qs h)

pub distinct_in_order : (ps : List Pair) → InOrder ps → AreDistinct ps
distinct_in_order [] h = tt
distinct_in_order (q ∷ qs) h = (ap is_some (absent _ qs h.0), distinct_in_order qs h.1)

-- Pairs in order are determined by the values of the names.
value_first : (q : Pair) (qs : List Pair) → value_of (q ∷ qs) q.name ≡ Some q.value
value_first q qs = cc (value_of-cons q qs q.name, bytes_eq-refl q.name q.name refl)

same_behind : (p q : Pair) (ps qs : List Pair) (n : List ℕ) → AllAfter p.name ps → AllAfter q.name qs → p.name ≡ q.name
    → value_of (p ∷ ps) n ≡ value_of (q ∷ qs) n → value_of ps n ≡ value_of qs n
same_behind p q ps qs n h k same e = search (rules, bytes_eq-true, absent, value_of-cons)

pub same_pairs : (ps qs : List Pair) → InOrder ps → InOrder qs → ((name : List ℕ) → value_of ps name ≡ value_of qs name) → ps ≡ qs
same_pairs [] [] h k e = refl
same_pairs [] (q ∷ qs) h k e = absurd (none-some _ (e _ ∙ value_first q qs))
same_pairs (p ∷ ps) [] h k e = absurd (none-some _ (sym (e _) ∙ value_first p ps))
same_pairs (p ∷ ps) (q ∷ qs) h k e = by_order (same_pairs ps qs h.1 k.1) (comparable _ _)
  where
    here : p.name ≡ q.name → p ≡ q
    here same =
        let value = same_Some p.value q.value (sym (value_first p ps) ∙ e p.name ∙ ap (value_of (q ∷ qs)) same ∙ value_first q qs) in search rules

    by_order : (((n : List ℕ) → value_of ps n ≡ value_of qs n) → ps ≡ qs) → Comparable p.name q.name → (p ∷ ps) ≡ (q ∷ qs)
    by_order rest h1 = search (rules, none-some, absent, further_after, value_first, same_behind)
