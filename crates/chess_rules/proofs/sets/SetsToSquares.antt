-- Sets of squares: what is in a meet or a union, whether a set is empty, and its members in turn.
use Rattle.chess_rules.proofs.Words.{Square, squares, cell_of, lone, square_at, Bits, has, has_any, HasNone, IsFirst, IsLowest, members, Places, Sets, TakesLowest, ◌≡◌, ℕ, zero, suc, ◌+◌, ◌<◌, ◌≤◌, ◌^◌, Bool, true, false, not, ◌&&◌, ◌||◌, inl, inr, List, [], ◌∷◌, length, map, cond, refl, sym, ◌∙◌, ap, ap₂, subst, w64, arith, ◌==◌, None, Some, filter, if◌then◌else◌, list_any, range_with_len, trailing_zeros, false≢true, word, ◌*◌, same_from_bits_below, get_or-range_with_len, length-range_with_len, false_from_ne_true, not-true, common_steps, ones_cat, add_comm}
use mathlib.Core.Bool.{and-true}
use Rattle.chess_rules.proofs.sets.WordsToCells.{has_zero, same_or_apart, has_word, word_fits, same_bit}
use Rattle.chess_rules.proofs.sets.LowestAndHighest.{lowest_place}
use Rattle.chess_rules.proofs.sets.AllSquares.{Passes, some_square, any_square, by_places, cell_of-square_at, square_at-cell_of, any_same}
use Rattle.chess_rules.proofs.trying.FoundLists.{list_any-filter}
use Rattle.std.specs.Int.Count.{ones}

pub places_and : (v w r : ℕ) (p q : Square → Bool) → Bits r (λ i. has v i && has w i)
    → Places v p → Places w q → Places r (λ s. p s && q s)
places_and v w r p q both h g = record { of = λ i low. both.of i low ∙ ap₂ (λ x y. x && y) (h.of i low) (g.of i low) }

pub places_or : (v w r : ℕ) (p q : Square → Bool) → Bits r (λ i. has v i || has w i)
    → Places v p → Places w q → Places r (λ s. p s || q s)
places_or v w r p q either h g = record { of = λ i low. either.of i low ∙ ap₂ (λ x y. x || y) (h.of i low) (g.of i low) }

pub places_not : (w r : ℕ) (p : Square → Bool) → Bits r (λ i. not (has w i)) → Places w p → Places r (λ s. not (p s))
places_not w r p rest h = record { of = λ i low. rest.of i low ∙ ap not (h.of i low) }

pub places_same : (w : ℕ) (p q : Square → Bool) → Places w p → ((s : Square) → p s ≡ q s) → Places w q
places_same w p q h same = record { of = λ i low. h.of i low ∙ same (square_at i) }

module _ (w : ℕ) (test : Square → Bool) where
  pub at_square : (s : Square) → Places w test → s.file < 8 → s.rank < 8 → has w (cell_of s) ≡ test s
  at_square s h file rank = grind arith

  pub at_place : (s : Square) → Places w test → cell_of s < 64 → square_at (cell_of s) ≡ s → has w (cell_of s) ≡ test s
  at_place s h inside again = h.of (cell_of s) inside ∙ ap test again

  -- A set is empty exactly if no square passes.

  pub none_passes : Places w test → w ≡ 0 → list_any test squares ≡ false
  none_passes h none =
      false_from_ne_true (list_any test squares) (λ e.
      let found : Passes test = some_square test e in
      false≢true (sym (has_zero (cell_of found.on)) ∙ (ap (λ n. has n (cell_of found.on)) (sym none)
      ∙ (at_square found.on h found.file found.rank ∙ found.holds))))

pub one_passes : (w : ℕ) (test : Square → Bool) → Places w test → 0 < w → w < 2 ^ 64 → list_any test squares ≡ true
one_passes w test h some fits =
    let lowest : IsLowest w (trailing_zeros w64 w) = lowest_place w some fits in
    at_place (trailing_zeros w64 w) lowest.inside lowest.here
  where
    at_place : (i : ℕ) → i < 64 → has w i ≡ true → list_any test squares ≡ true
    at_place i low here = any_square test (square_at i) (omega arith) (omega arith) (sym (h.of i low) ∙ here)

set_test : (w : ℕ) (test : Square → Bool) → Places w test → w < 2 ^ 64 → not (w == 0) ≡ list_any test squares
set_test w test places fits = grind (arith, none_passes, one_passes)

-- a set, as the test whether a square is in it
itself : (w : ℕ) → Places w (λ s. has w (cell_of s))
itself w = record { of = λ i low. ap (has w) (sym (cell_of-square_at i)) }

pub empty_test : (w : ℕ) → w < 2 ^ 64 → (w == 0) ≡ not (has_any w)
unfolding has_any
empty_test w fits = grind (arith, common_steps, set_test)

-- The members in turn.

same_filter : (p q : Square → Bool) (a n : ℕ) → ((i : ℕ) → a ≤ i → i < a + n → p (square_at i) ≡ q (square_at i))
    → filter p (map square_at (range_with_len a n)) ≡ filter q (map square_at (range_with_len a n))
same_filter p q a zero h = refl
same_filter p q a (suc n) h = grind (arith, common_steps, (same_filter p q (a + 1) n (λ i low high. h i (omega arith) (omega arith))))

pub members_are : (w : ℕ) (test : Square → Bool)
    → ((i : ℕ) → i < 64 → has w i ≡ test (square_at i)) → members w ≡ filter test squares
unfolding members
members_are w test h =
    ap (filter (λ s. has w (cell_of s))) by_places
    ∙ (same_filter (λ s. has w (cell_of s)) test 0 64 (λ i _ high. ap (has w) (cell_of-square_at i) ∙ h i (omega arith))
    ∙ ap (filter test) (sym by_places))

-- what is found among those that pass is found in the set of them
pub any_member : (w : ℕ) (p q : Square → Bool) → Places w p → list_any (λ s. p s && q s) squares ≡ list_any q (members w)
any_member w p q h = sym (list_any-filter q p squares) ∙ ap (list_any q) (sym (members_are w p h.of))

pub any_of_set : (w : ℕ) (test : Square → Bool) → Places w test → has_any w ≡ list_any test squares
unfolding has_any
any_of_set w test h = as_found (λ s. has w (cell_of s)) ∙ (any_member w (λ s. has w (cell_of s)) (λ s. true) (itself w)
    ∙ (sym (any_member w test (λ s. true) h) ∙ sym (as_found test)))
  where
    as_found : (p : Square → Bool) → list_any p squares ≡ list_any (λ s. p s && true) squares
    as_found p = any_same p (λ s. p s && true) squares (λ s. sym (and-true (p s)))

-- a set of which none is said to be empty
pub full_when : (w : ℕ) (test : Square → Bool) (empty : Bool) → Places w test
    → empty ≡ not (has_any w) → not empty ≡ list_any test squares
full_when w test empty h e = grind (arith, common_steps, any_of_set)

-- nothing is in a set that is empty
pub none_of_set : (w : ℕ) → not (has_any w) ≡ true → (i : ℕ) → i < 64 → has w i ≡ false
unfolding has_any
none_of_set w none i low =
    false_from_ne_true (has w i) (λ e. false≢true (sym (not-true _ none)
    ∙ any_square (λ s. has w (cell_of s)) (square_at i) (omega arith) (omega arith) (ap (has w) (cell_of-square_at i) ∙ e)))

first_taken : (p q : Square → Bool) (a k n : ℕ) → a ≤ n → n < a + k
    → p (square_at n) ≡ true → ((i : ℕ) → i < n → p (square_at i) ≡ false)
    → ((i : ℕ) → i < a + k → q (square_at i) ≡ (if i == n then false else p (square_at i)))
    → filter p (map square_at (range_with_len a k)) ≡ square_at n ∷ filter q (map square_at (range_with_len a k))
first_taken p q a zero n low high here none rest = absurd (omega arith)
first_taken p q a (suc k) n low high here none rest =
    elim (same_or_apart a n) [
      | inl w ↦
          let yes : p (square_at a) ≡ true = ap (λ j. p (square_at j)) w.0 ∙ here in
          let no : q (square_at a) ≡ false = rest a (omega arith) ∙ ap (λ v. if v then false else p (square_at a)) w.1 in
          let tail : filter p (map square_at (range_with_len (a + 1) k)) ≡ filter q (map square_at (range_with_len (a + 1) k)) =
          same_filter p q (a + 1) k
          (λ i above below. sym (rest i (omega arith) ∙ ap (λ v. if v then false else p (square_at i)) (later i above w.0))) in
          rw (yes, no, tail) (ap (λ j. square_at j ∷ filter q (map square_at (range_with_len (a + 1) k))) w.0)
      | inr w ↦
          let out : p (square_at a) ≡ false = none a (less a n low w.0) in
          let no : q (square_at a) ≡ false = rest a (omega arith) ∙ (ap (λ v. if v then false else p (square_at a)) w.1 ∙ out) in
          rw (out, no) (first_taken p q (a + 1) k n (omega arith) (omega arith) here none (λ i below. rest i (omega arith)))
    ]
  where
    less : (i j : ℕ) → i ≤ j → (i ≡ j → ⊥) → i < j
    less i j g apart = grind (arith, apart)

    later : (i : ℕ) → a + 1 ≤ i → a ≡ n → (i == n) ≡ false
    later i above same = grind arith

next_member : (w rest n : ℕ) → IsLowest w n → Sets w rest n false → members w ≡ square_at n ∷ members rest
unfolding members
next_member w rest n lowest sets =
    ap (filter (λ s. has w (cell_of s))) by_places
    ∙ (first_taken (λ s. has w (cell_of s)) (λ s. has rest (cell_of s)) 0 64 n (omega arith) (omega (arith, lowest.inside))
    (ap (has w) (cell_of-square_at n) ∙ lowest.here)
    (λ i low. ap (has w) (cell_of-square_at i) ∙ lowest.none i low)
    (λ i low. ap (has rest) (cell_of-square_at i)
    ∙ (sets.of i (omega arith) ∙ ap (λ v. if i == n then false else v) (ap (has w) (sym (cell_of-square_at i)))))
    ∙ ap (λ xs. square_at n ∷ filter (λ s. has rest (cell_of s)) xs) (sym by_places))

pub no_member : (w : ℕ) → w ≡ 0 → HasNone w
no_member w none = record {
  of = λ i low. ap (λ n. has n i) none ∙ has_zero i;
  none = members_are w (λ s. false) (λ i low. ap (λ n. has n i) none ∙ has_zero i) ∙ nothing squares;
}
  where
    nothing : (xs : List Square) → filter (λ s. false) xs ≡ []
    nothing [] = refl
    nothing (x ∷ xs) = nothing xs

pub lone_means : (xs : List Square) (s : Square) → lone xs ≡ Some s → xs ≡ s ∷ []
lone_means xs s h = grind (arith, common_steps)

-- the first square is taken out
pub takes_lowest : (w rest : ℕ) (s : Square) → IsFirst w s → Sets w rest (cell_of s) false → TakesLowest w rest s
takes_lowest w rest s first sets =
    record {
      file = first.file;
      rank = first.rank;
      here = first.place.here;
      rest = sets;
      next = next_member w rest (cell_of s) first.place sets ∙ ap (λ t. t ∷ members rest) (square_at-cell_of s first.file);
    }

-- it is the one square, if none is left
lone_after : (p : Square → Bool) (xs : List Square) (s : Square) → lone (s ∷ filter p xs) ≡ (if list_any p xs then None else Some s)
lone_after p [] s = refl
lone_after p (x ∷ xs) s = grind (arith, common_steps, (lone_after p xs s))

pub lone_first : (w rest : ℕ) (s : Square) → IsFirst w s → Sets w rest (cell_of s) false
    → lone (members w) ≡ (if has_any rest then None else Some s)
unfolding members has_any
lone_first w rest s first sets = ap lone (takes_lowest w rest s first sets).next ∙ lone_after (λ t. has rest (cell_of t)) squares s

pub first_place : (w : ℕ) (s : Square) → 0 < w → w < 2 ^ 64 → s ≡ square_at (trailing_zeros w64 w) → IsFirst w s
first_place w s some fits is = grind (arith, common_steps, trailing_zeros, w64, lowest_place)

-- At most one square passes, if any two that pass are one.

none_kept : (p : Square → Bool) (a n : ℕ) → ((i : ℕ) → a ≤ i → i < a + n → p (square_at i) ≡ true → ⊥)
    → length (filter p (map square_at (range_with_len a n))) ≡ 0
none_kept p a zero h = refl
none_kept p a (suc n) h = grind (arith, common_steps, length, map, (none_kept p (a + 1) n (λ i low high. h i (omega arith) (omega arith))))

one_of_range : (p : Square → Bool) (a n : ℕ)
    → ((i j : ℕ) → a ≤ i → i < j → j < a + n → p (square_at i) ≡ true → p (square_at j) ≡ true → ⊥)
    → length (filter p (map square_at (range_with_len a n))) ≤ 1
one_of_range p a zero h = omega arith
one_of_range p a (suc n) h = by_test (p (square_at a)) refl (one_of_range p (a + 1) n (λ i j low less high. h i j (omega arith) less (omega arith)))
  where
    by_test : (x : Bool) → p (square_at a) ≡ x → length (filter p (map square_at (range_with_len (a + 1) n))) ≤ 1
        → length (cond x (square_at a ∷ filter p (map square_at (range_with_len (a + 1) n)))
        (filter p (map square_at (range_with_len (a + 1) n)))) ≤ 1
    by_test x e few = grind (arith, common_steps, length, map, none_kept)

pub one_kept : (p : Square → Bool) → ((i j : ℕ) → i < j → j < 64 → p (square_at i) ≡ true → p (square_at j) ≡ true → ⊥)
    → length (filter p squares) ≤ 1
one_kept p h =
    subst (λ (xs : List Square). length (filter p xs) ≤ 1) (sym by_places) (one_of_range p 0 64 (λ i j _ less high. h i j less (omega arith)))

-- How many squares a set has: as many as its word has ones.

ones_next : (v : Bool) (n : ℕ) → ones ((if v then 1 else 0) + 2 * n) ≡ cond v 1 0 + ones n
unfolding ones
ones_next true n = ap ones (let e : 1 + 2 * n ≡ n * 2 ^ 1 + 1 = omega arith in e) ∙ (ones_cat 1 n 1 (omega arith) ∙ add_comm (ones n) 1)
ones_next false n = ap ones (let e : 0 + 2 * n ≡ n * 2 ^ 1 + 0 = omega arith in e) ∙ (ones_cat 1 n 0 (omega arith) ∙ add_comm (ones n) 0)

module _ {X : Type 0} (test : X → Bool) where
  ones_kept : (xs : List X) → ones (word test xs) ≡ length (filter test xs)
  unfolding word ones
  ones_kept [] = refl
  ones_kept (x ∷ xs) = grind (arith, common_steps, ones_next, (ones_kept xs))

-- a set, as the word of its places
word_of_set : (w : ℕ) → w < 2 ^ 64 → word (has w) (range_with_len 0 64) ≡ w
word_of_set w fits =
    same_from_bits_below 64 (word (has w) (range_with_len 0 64)) w
    (omega (arith, word_fits (has w) (range_with_len 0 64), ap (λ k. 2 ^ k) (length-range_with_len 0 64))) fits
    (λ i low. same_bit (word (has w) (range_with_len 0 64)) w i
    (has_word (has w) (range_with_len 0 64) i 0 (omega (arith, low, length-range_with_len 0 64)) ∙ ap (has w) (get_or-range_with_len 0 64 i 0 low ∙ (let e : 0 + i ≡ i = omega arith in e))))

by_squares : (w a n : ℕ) → length (filter (has w) (range_with_len a n))
    ≡ length (filter (λ s. has w (cell_of s)) (map square_at (range_with_len a n)))
by_squares w a zero = refl
by_squares w a (suc n) = grind (arith, common_steps, cell_of-square_at, map, (by_squares w (a + 1) n))

pub ones_are_members : (w : ℕ) → w < 2 ^ 64 → ones w ≡ length (members w)
unfolding members
ones_are_members w fits =
    ap ones (sym (word_of_set w fits))
    ∙ (ones_kept (has w) (range_with_len 0 64)
    ∙ (by_squares w 0 64 ∙ ap (λ xs. length (filter (λ s. has w (cell_of s)) xs)) (sym by_places)))
