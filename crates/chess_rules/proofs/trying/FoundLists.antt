-- What is found by a test or a filter: no element twice, and how many.
use Rattle.chess_rules.proofs.Words.{◌≡◌, ℕ, ◌+◌, ◌≤◌, Bool, true, false, cond, eqb, ◌&&◌, ◌||◌, List, [], ◌∷◌, map, length, Option, None, Some, refl, ◌∙◌, ap, arith, list_any, list_all, filter, filter_map, cons_option, AllByRecursion, IsDistinct, common_steps}
use Rattle.chess_rules.proofs.sets.AllSquares.{first_true, second_true}

-- What is found passes a test.

abbrev pub passes : {Y : Type 0} → (Y → Bool) → Option Y → Bool
passes test None = false
passes test (Some y) = test y

any-cond : {Y : Type 0} (test : Y → Bool) (b : Bool) (y : Y) (ys : List Y)
    → list_any test (cond b (y ∷ ys) ys) ≡ ((b && test y) || list_any test ys)
any-cond test b y ys = grind arith

pub list_any-filter : {Y : Type 0} (test p : Y → Bool) (ys : List Y) → list_any test (filter p ys) ≡ list_any (λ y. p y && test y) ys
list_any-filter test p [] = refl
list_any-filter test p (y ∷ ys) = any-cond test (p y) y (filter p ys) ∙ ap (λ v. (p y && test y) || v) (list_any-filter test p ys)

-- a filter finds what it keeps
abbrev pub keep : {X : Type 0} → (X → Bool) → X → Option X
keep p x = cond (p x) (Some x) None

keep_one : {X : Type 0} (b : Bool) (x : X) (xs : List X) → cond b (x ∷ xs) xs ≡ cons_option (cond b (Some x) None) xs
keep_one b x xs = grind arith

pub filter_as_map : {X : Type 0} (p : X → Bool) (xs : List X) → filter p xs ≡ filter_map (keep p) xs
filter_as_map p [] = refl
filter_as_map p (x ∷ xs) = ap (λ ys. cond (p x) (x ∷ ys) ys) (filter_as_map p xs) ∙ keep_one (p x) x (filter_map (keep p) xs)

-- What is found at elements with different codes differs, if the code can be read off it.
module _ {X Y : Type 0} (e : Y → Y → Bool) (h : X → Option Y) (known : X → Bool) (code : X → ℕ) (back : Y → ℕ)
    (found : (x : X) (y : Y) → known x ≡ true → h x ≡ Some y → back y ≡ code x)
    (alike : (y z : Y) → e y z ≡ true → back y ≡ back z) where
  differ : (y : Y) (n : ℕ) → back y ≡ n → (xs : List X) → list_all known xs ≡ true
      → AllByRecursion (λ m. eqb n m ≡ false) (map code xs) → AllByRecursion (λ z. e y z ≡ false) (filter_map h xs)
  differ y n is [] k apart = tt
  differ y n is (x ∷ xs) k apart = grind (arith, common_steps, second_true, (differ y n is xs (second_true (known x) _ k) apart.1))

  pub distinct_found : (xs : List X) → list_all known xs ≡ true → IsDistinct eqb (map code xs) → IsDistinct e (filter_map h xs)
  unfolding IsDistinct
  distinct_found [] k apart = tt
  distinct_found (x ∷ xs) k apart = by_found (h x) refl (distinct_found xs (second_true (known x) _ k) apart.1)
    where
      by_found : (o : Option Y) → h x ≡ o → IsDistinct e (filter_map h xs) → IsDistinct e (cons_option o (filter_map h xs))
      by_found None there rest = rest
      by_found (Some y) there rest = (differ y (code x) (found x y (first_true (known x) _ k) there) xs (second_true (known x) _ k) apart.0, rest)

-- How many are kept.

-- a test that lets more through keeps more
pub kept_more : {X : Type 0} (f g : X → Bool) (xs : List X)
    → ((s : X) → f s ≡ true → g s ≡ true) → length (filter f xs) ≤ length (filter g xs)
kept_more f g [] h = omega arith
kept_more {X = X} f g (x ∷ xs) h = grind (arith, common_steps, length, (kept_more f g xs h))

-- those that pass one test and then another
pub kept_twice : {X : Type 0} (f g : X → Bool) (both : X → Bool) → ((x : X) → both x ≡ (f x && g x)) → (xs : List X)
    → filter g (filter f xs) ≡ filter both xs
kept_twice f g both same [] = refl
kept_twice {X = X} f g both same (x ∷ xs) = grind (arith, common_steps, (kept_twice f g both same xs))

pub kept_either : {X : Type 0} (f g : X → Bool) (xs : List X)
    → length (filter (λ x. f x || g x) xs) ≤ length (filter f xs) + length (filter g xs)
kept_either f g [] = omega arith
kept_either {X = X} f g (x ∷ xs) = grind (arith, common_steps, length, (kept_either f g xs))
