-- What a test of all 64 squares says of each square.
use Rattle.chess_rules.proofs.Words.{Square, squares, square_at, cell_of, ◌≡◌, ℕ, suc, ◌<◌, Bool, true, not, ◌&&◌, ◌||◌, inl, inr, List, [], ◌∷◌, length, get_or, map, sym, refl, ◌∙◌, ap, arith, ◌==◌, list_all, range_with_len, list_any, or_cases, get_or-map-range_with_len, common_steps, list_any_at, AllPass-from_list_all, list_all-from_AllPass}

pub not_true : (x y : Bool) → x ≡ true → (not x || y) ≡ true → y ≡ true
not_true x y h g = grind arith

pub implied : (x y : Bool) → (x ≡ true → y ≡ true) → (not x || y) ≡ true
implied x y h = grind arith

pub equal_from : (a b : ℕ) → (a == b) ≡ true → a ≡ b
equal_from a b h = grind arith

pub equal_tests : (a b : ℕ) → a ≡ b → (a == b) ≡ true
equal_tests a b h = grind arith

-- two tests that imply one another
pub same_tests : (x y : Bool) → (x ≡ true → y ≡ true) → (y ≡ true → x ≡ true) → x ≡ y
same_tests x y h g = grind arith

pub first_true : (x y : Bool) → (x && y) ≡ true → x ≡ true
first_true x y h = grind arith

pub second_true : (x y : Bool) → (x && y) ≡ true → y ≡ true
second_true x y h = grind arith

-- The squares by their places.

pub cell_of-square_at : (i : ℕ) → cell_of (square_at i) ≡ i
cell_of-square_at i = omega arith

pub square_at-cell_of : (s : Square) → s.file < 8 → square_at (cell_of s) ≡ s
square_at-cell_of s file = grind arith

pub by_places : squares ≡ map square_at (range_with_len 0 64)
unfolding squares
by_places = refl

pub squares_long : length squares ≡ 64
unfolding squares
squares_long = refl

pub square_in_place : (i : ℕ) (d : Square) → i < 64 → get_or squares i d ≡ square_at i
square_in_place i d low = ap (λ ss. get_or ss i d) by_places ∙ get_or-map-range_with_len square_at 0 64 i i d low (omega arith)

-- what passes on all squares passes on each square of the board
pub each_square : (test : Square → Bool) (u : Square) → list_all test squares ≡ true → u.file < 8 → u.rank < 8 → test u ≡ true
each_square test u h file rank =
    ap test (sym (square_in_place (cell_of u) u (omega arith) ∙ square_at-cell_of u file))
    ∙ AllPass-from_list_all test squares h (cell_of u) u (omega (arith, squares_long))

pub all_squares : (test : Square → Bool) → ((u : Square) → u.file < 8 → u.rank < 8 → test u ≡ true) → list_all test squares ≡ true
all_squares test h = grind (arith, common_steps, list_all-from_AllPass, squares_long, square_in_place)

-- An element that passes.

pub any_same : {X : Type 0} (f g : X → Bool) (xs : List X) → ((x : X) → f x ≡ g x) → list_any f xs ≡ list_any g xs
any_same f g xs h = grind arith

-- some square of the board passes
pub record Passes (test : Square → Bool) : Type 0 where
  pub on : Square
  pub file : on.file < 8
  pub rank : on.rank < 8
  pub holds : test on ≡ true

passing_place : {X : Type 0} (test : X → Bool) (xs : List X) → list_any test xs ≡ true
    → (i : ℕ) × (i < length xs) × ((d : X) → test (get_or xs i d) ≡ true)
passing_place test [] h = cc
passing_place test (x ∷ xs) h = elim (or_cases (test x) (list_any test xs) h) [
  | inl here ↦ (0, omega arith, λ d. here)
  | inr later ↦ (let (i, low, passes) = passing_place test xs later in (suc i, omega arith, passes))
]

pub some_square : (test : Square → Bool) → list_any test squares ≡ true → Passes test
some_square test h =
    let (i, low, passes) = passing_place test squares h in
    let inside : i < 64 = omega (arith, squares_long) in
    record {
      on = square_at i;
      file = omega arith;
      rank = omega arith;
      holds = ap test (sym (square_in_place i (square_at i) inside)) ∙ passes (square_at i);
    }

pub any_square : (test : Square → Bool) (u : Square) → u.file < 8 → u.rank < 8 → test u ≡ true → list_any test squares ≡ true
any_square test u file rank h =
    list_any_at test squares (cell_of u) u (omega (arith, squares_long))
    (ap test (square_in_place (cell_of u) u (omega arith) ∙ square_at-cell_of u file) ∙ h)
