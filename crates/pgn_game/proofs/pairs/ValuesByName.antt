-- The values of names in pairs that are joined, filtered, or put in one after another.
use Rattle.pgn_game.proofs.Words.{◌≡◌, ℕ, ◌||◌, Bool, true, false, cond, List, [], ◌∷◌, ◌++◌, refl, sym, ap, ◌∙◌, Option, None, Some, bytes_eq, filter, is_some, AllByRecursion, false≢true, or_parts, bytes_eq-Decides, Pair, value_of, has_pair, insert_pair, arith, rules}

pub bytes_eq-true : (xs ys : List ℕ) → bytes_eq xs ys ≡ true → xs ≡ ys
bytes_eq-true xs ys e = (bytes_eq-Decides xs ys).0 e

pub bytes_eq-refl : (xs ys : List ℕ) → xs ≡ ys → bytes_eq xs ys ≡ true
bytes_eq-refl xs ys e = (bytes_eq-Decides xs ys).1 e

same_bool : {a b : Bool} → (a ≡ true → b ≡ true) → (b ≡ true → a ≡ true) → a ≡ b
same_bool there back = grind arith

-- the tests of equality of texts agree either way round
pub bytes_eq-sym : (xs ys : List ℕ) → bytes_eq xs ys ≡ bytes_eq ys xs
bytes_eq-sym xs ys = grind (arith, bytes_eq-true, bytes_eq-refl, same_bool)

pub no_value : {A : Type 0} (o : Option A) → is_some o ≡ false → o ≡ None
no_value o e = search (rules, false≢true)

-- The value of a name, from whether the first pair has this name.
abbrev pub pick : Bool → List ℕ → Option (List ℕ) → Option (List ℕ)
pick true v o = Some v
pick false v o = o

pub value_of-cons : (p : Pair) (ps : List Pair) (name : List ℕ)
    → value_of (p ∷ ps) name ≡ pick (bytes_eq p.name name) p.value (value_of ps name)
value_of-cons p ps name = grind arith

some_pick : (b : Bool) (v : List ℕ) (o : Option (List ℕ)) → is_some (pick b v o) ≡ (b || is_some o)
some_pick b v o = search rules

pub has-cons : (q : Pair) (ps : List Pair) (name : List ℕ) → has_pair (q ∷ ps) name ≡ (bytes_eq q.name name || has_pair ps name)
has-cons q ps name = cc (value_of-cons q ps name, some_pick (bytes_eq q.name name) q.value (value_of ps name))

pub not_among : (r : Pair) (rs : List Pair) (name : List ℕ) → has_pair (r ∷ rs) name ≡ false
    → (bytes_eq r.name name ≡ false) × (has_pair rs name ≡ false)
not_among r rs name e = or_parts _ _ (sym (has-cons r rs name) ∙ e)

-- the pair of a name that has a value
found_at : (P : Pair → Type 0) (q : Pair) (n : List ℕ) {v : List ℕ} {o : Option (List ℕ)} {b : Bool} → P q → bytes_eq q.name n ≡ b
    → (o ≡ Some v → P (record { name = n; value = v })) → pick b q.value o ≡ Some v → P (record { name = n; value = v })
found_at P q n h is rest e = search (rules, bytes_eq-true)

pub found : (P : Pair → Type 0) (ps : List Pair) (n v : List ℕ) → AllByRecursion P ps
    → value_of ps n ≡ Some v → P (record { name = n; value = v })
found P [] n v h e = absurd (cc)
found P (q ∷ qs) n v h e = found_at P q n h.0 refl (found P qs n v h.1) (sym (value_of-cons q qs n) ∙ e)

-- Pairs that are joined.
abbrev pub either_of : Option (List ℕ) → Option (List ℕ) → Option (List ℕ)
either_of (Some value) other = Some value
either_of None other = other

pub either_none : (o : Option (List ℕ)) → either_of o None ≡ o
either_none o = search rules

pick_either : (b : Bool) (v : List ℕ) (o p : Option (List ℕ)) → pick b v (either_of o p) ≡ either_of (pick b v o) p
pick_either b v o p = search rules

pub value_of-append : (ps qs : List Pair) (name : List ℕ) → value_of (ps ++ qs) name ≡ either_of (value_of ps name) (value_of qs name)
value_of-append [] qs name = refl
value_of-append (p ∷ ps) qs name =
    let either = pick_either (bytes_eq p.name name) p.value (value_of ps name) (value_of qs name) in
    cc (value_of-cons p (ps ++ qs) name, value_of-append ps qs name, either, value_of-cons p ps name)

-- Pairs whose names pass a test.
kept_or_not : (f : List ℕ → Bool) (p : Pair) (n : List ℕ) (k b : Bool) (F : List Pair) (o : Option (List ℕ))
    → f p.name ≡ k → bytes_eq p.name n ≡ b
    → value_of F n ≡ cond (f n) o None → value_of (cond k (p ∷ F) F) n ≡ cond (f n) (pick b p.value o) None
kept_or_not f p n k b F o h1 h2 h3 = search (rules, bytes_eq-true, value_of-cons)

pub value_of-kept : (f : List ℕ → Bool) (ps : List Pair) (n : List ℕ)
    → value_of (filter (λ p. f p.name) ps) n ≡ cond (f n) (value_of ps n) None
value_of-kept f [] n = elim (f n) as (λ c. None ≡ cond {A = Option (List ℕ)} c None None) [ true ↦ refl | false ↦ refl ]
value_of-kept f (p ∷ ps) n = search (rules, kept_or_not, value_of-cons, (value_of-kept f ps n))

-- A pair put in: what holds where it comes first, and of a pair before it, holds of all.
pub by_insert : (P : List Pair → List Pair → Type 0) (q : Pair) → ((qs : List Pair) → P qs (q ∷ qs))
    → ((r : Pair) (rs more : List Pair) → P rs more → P (r ∷ rs) (r ∷ more)) → (qs : List Pair) → P qs (insert_pair q qs)
by_insert P q first later [] = first []
by_insert P q first later (r ∷ rs) = search (rules, (by_insert P q first later rs))

or_swap : (a b c : Bool) → (a || (b || c)) ≡ (b || (a || c))
or_swap a b c = search rules

-- a name is among the pairs with one more
pub has-insert : (q : Pair) (ps : List Pair) (name : List ℕ) → has_pair (insert_pair q ps) name ≡ (bytes_eq q.name name || has_pair ps name)
has-insert q ps name =
    cc (by_insert (λ qs l. has_pair l name ≡ (bytes_eq q.name name || has_pair qs name)) q (λ qs. has-cons q qs name)
    (λ r rs l more. has-cons r l name ∙ ap (λ x. bytes_eq r.name name || x) more ∙ or_swap (bytes_eq r.name name)
    (bytes_eq q.name name) (has_pair rs name) ∙ ap (λ x. bytes_eq q.name name || x) (sym (has-cons r rs name))) ps)

-- it does not change the values of other names
pub value_of-insert : (p : Pair) (qs : List Pair) (name : List ℕ)
    → bytes_eq p.name name ≡ false → value_of (insert_pair p qs) name ≡ value_of qs name
value_of-insert p qs name e =
    by_insert (λ ps l. value_of l name ≡ value_of ps name) p
    (λ ps. value_of-cons p ps name ∙ ap (λ b. pick b p.value (value_of ps name)) e)
    (λ r rs l e. value_of-cons r l name ∙ ap (pick (bytes_eq _ name) _) e ∙ sym (value_of-cons r rs name)) qs

pick_swap : {b c : Bool} (v w : List ℕ) (o : Option (List ℕ))
    → (b ≡ true → c ≡ true → ⊥) → pick b v (pick c w o) ≡ pick c w (pick b v o)
pick_swap v w o apart = grind arith

two_names : (r q n : List ℕ) → bytes_eq r q ≡ false → bytes_eq r n ≡ true → bytes_eq q n ≡ true → ⊥
two_names r q n other e f = search (rules, bytes_eq-refl, bytes_eq-true, false≢true)

pub value_of-put : (q : Pair) (qs : List Pair) (n : List ℕ) → has_pair qs q.name ≡ false
    → value_of (insert_pair q qs) n ≡ pick (bytes_eq q.name n) q.value (value_of qs n)
value_of-put q qs n =
    by_insert (λ ps l. has_pair ps q.name ≡ false → value_of l n ≡ pick (bytes_eq q.name n) q.value (value_of ps n)) q
    (λ ps new. value_of-cons q ps n) (λ r rs l more new.
    let apart = not_among r rs _ new in search (rules, value_of-cons, pick_swap, two_names)) qs

pub all-insert : (P : Pair → Type 0) (q : Pair) (qs : List Pair) → P q → AllByRecursion P qs → AllByRecursion P (insert_pair q qs)
all-insert P q qs h =
    by_insert (λ ps l. AllByRecursion P ps → AllByRecursion P l) q (λ ps hs. (h, hs))
    (λ r rs l more hs. (hs.0, more hs.1)) qs
