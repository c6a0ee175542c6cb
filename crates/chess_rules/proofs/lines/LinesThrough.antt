-- Four lines go through a square. Of two squares on one, those between are between in order too.
use Rattle.chess_rules.proofs.Words.{Square, gap, inside, in_line, on_diagonal, strictly_between, between_on_rank, between_on_file, between_on_diagonal, cell_of, IsLine, is_steep, ◌≡◌, ℕ, ◌+◌, ◌<◌, ◌≢◌, Bool, true, false, not, ◌&&◌, ◌⊎◌, arith, nat_tests, or_left, or_right}
use Rattle.chess_rules.proofs.lines.AttackToReach.{between_cases}
use Rattle.chess_rules.proofs.sets.AllSquares.{first_true, second_true, same_tests}

pub inside_means : (a x b : ℕ) → inside a x b ≡ true → ((a < x) × (x < b)) ⊎ ((b < x) × (x < a))
inside_means a x b h = grind arith

pub inside_up : (a x b : ℕ) → a < x → x < b → inside a x b ≡ true
inside_up a x b h g = grind arith

pub inside_down : (a x b : ℕ) → b < x → x < a → inside a x b ≡ true
inside_down a x b h g = grind arith

-- what a test of two squares on one diagonal says
module _ (s t : Square) where
  gaps_same : on_diagonal s t ≡ true → gap s.file t.file ≡ gap s.rank t.rank
  gaps_same h = grind arith

  rising_means : (on_diagonal s t && is_steep s t) ≡ true → s.file + t.rank ≡ t.file + s.rank
  rising_means h = grind arith

  rising_apart : (on_diagonal s t && is_steep s t) ≡ true → s.rank ≢ t.rank
  rising_apart h e = grind arith

  falling_means : (on_diagonal s t && not (is_steep s t)) ≡ true → s.file + s.rank ≡ t.file + t.rank
  falling_means h = grind arith

  falling_apart : (on_diagonal s t && not (is_steep s t)) ≡ true → s.rank ≢ t.rank
  falling_apart h e = grind arith

-- between on a diagonal
record Between (s u t : Square) : Type 0 where
  gaps : gap s.file u.file ≡ gap s.rank u.rank
  files : ((s.file < u.file) × (u.file < t.file)) ⊎ ((t.file < u.file) × (u.file < s.file))
  ranks : ((s.rank < u.rank) × (u.rank < t.rank)) ⊎ ((t.rank < u.rank) × (u.rank < s.rank))

between_means : (s u t : Square) → between_on_diagonal s u t ≡ true → Between s u t
between_means s u t h =
    let lines : (on_diagonal s t && on_diagonal s u) ≡ true = first_true _ (inside s.file u.file t.file && inside s.rank u.rank t.rank) h in
    let both : (inside s.file u.file t.file && inside s.rank u.rank t.rank) ≡ true = second_true (on_diagonal s t && on_diagonal s u) _ h in
    record {
      gaps = gaps_same s u (second_true (on_diagonal s t) _ lines);
      files = inside_means _ _ _ (first_true (inside s.file u.file t.file) _ both);
      ranks = inside_means _ _ _ (second_true (inside s.file u.file t.file) _ both);
    }

-- no square is on a line with itself
cross_leaves : (x : Bool) (t : Square) → (on_diagonal t t && x) ≡ false
cross_leaves x t = grind arith

line_leaves : (x : Bool) (t : Square) → (in_line t t && x) ≡ false
line_leaves x t = grind arith

not_on_rank : (s u t : Square) → s.rank ≢ t.rank → between_on_rank s u t ≡ true → ⊥
not_on_rank s u t h g = grind arith

rising_off_file : (s u t : Square) → s.file + t.rank ≡ t.file + s.rank → s.rank ≢ t.rank → between_on_file s u t ≡ true → ⊥
rising_off_file s u t h apart g = grind arith

falling_off_file : (s u t : Square) → s.file + s.rank ≡ t.file + t.rank → s.rank ≢ t.rank → between_on_file s u t ≡ true → ⊥
falling_off_file s u t h apart g = grind arith

pub rising_line : (t : Square) → t.file < 8 → IsLine (λ s. on_diagonal s t && is_steep s t) t
rising_line t tf = record {
  apart = cross_leaves (is_steep t t) t;
  between = λ s u sf _ uf _ l. same_tests _ _ (λ h. between_cases s u t h
      (λ r. absurd (not_on_rank s u t (rising_apart s t l) r))
      (λ f. absurd (rising_off_file s u t (rising_means s t l) (rising_apart s t l) f))
      (λ d. forth s u sf uf l (between_means s u t d))) (back s u sf uf l);
}
  where
    forth : (s u : Square) → s.file < 8 → u.file < 8 → (on_diagonal s t && is_steep s t) ≡ true → Between s u t
        → ((on_diagonal u t && is_steep u t) && inside (cell_of s) (cell_of u) (cell_of t)) ≡ true
    forth s u sf uf l w = grind (arith, nat_tests)

    back : (s u : Square) → s.file < 8 → u.file < 8 → (on_diagonal s t && is_steep s t) ≡ true
        → ((on_diagonal u t && is_steep u t) && inside (cell_of s) (cell_of u) (cell_of t)) ≡ true → strictly_between s u t ≡ true
    back s u sf uf l h = grind (arith, nat_tests, or_right, inside_means, second_true, rising_means, first_true)

pub falling_line : (t : Square) → t.file < 8 → IsLine (λ s. on_diagonal s t && not (is_steep s t)) t
falling_line t tf = record {
  apart = cross_leaves (not (is_steep t t)) t;
  between = λ s u sf _ uf _ l. same_tests _ _ (λ h. between_cases s u t h
      (λ r. absurd (not_on_rank s u t (falling_apart s t l) r))
      (λ f. absurd (falling_off_file s u t (falling_means s t l) (falling_apart s t l) f))
      (λ d. forth s u sf uf l (between_means s u t d))) (back s u sf uf l);
}
  where
    forth : (s u : Square) → s.file < 8 → u.file < 8 → (on_diagonal s t && not (is_steep s t)) ≡ true → Between s u t
        → ((on_diagonal u t && not (is_steep u t)) && inside (cell_of s) (cell_of u) (cell_of t)) ≡ true
    forth s u sf uf l w = grind (arith, nat_tests)

    back : (s u : Square) → s.file < 8 → u.file < 8 → (on_diagonal s t && not (is_steep s t)) ≡ true
        → ((on_diagonal u t && not (is_steep u t)) && inside (cell_of s) (cell_of u) (cell_of t)) ≡ true → strictly_between s u t ≡ true
    back s u sf uf l h = grind (arith, nat_tests, or_right, inside_means, second_true, falling_means, first_true)

-- a file and a rank

file_forth : (s u t : Square) → u.file < 8 → s.file < 8 → t.file < 8 → (in_line s t && is_steep s t) ≡ true
    → between_on_file s u t ≡ true → ((in_line u t && is_steep u t) && inside (cell_of s) (cell_of u) (cell_of t)) ≡ true
file_forth s u t uf sf tf h g = grind (arith, nat_tests)

file_back : (s u t : Square) → u.file < 8 → s.file < 8 → t.file < 8 → (in_line s t && is_steep s t) ≡ true
    → ((in_line u t && is_steep u t) && inside (cell_of s) (cell_of u) (cell_of t)) ≡ true → between_on_file s u t ≡ true
file_back s u t uf sf tf h g = grind (arith, nat_tests)

file_off_rank : (s u t : Square) → (in_line s t && is_steep s t) ≡ true → between_on_rank s u t ≡ true → ⊥
file_off_rank s u t h g = grind arith

line_off_cross : (s t : Square) → in_line s t ≡ true → on_diagonal s t ≡ true → ⊥
line_off_cross s t h g = grind arith

cross_there : (s u t : Square) → between_on_diagonal s u t ≡ true → on_diagonal s t ≡ true
cross_there s u t h = grind arith

pub file_line : (t : Square) → t.file < 8 → IsLine (λ s. in_line s t && is_steep s t) t
file_line t tf = record {
  apart = line_leaves (is_steep t t) t;
  between = λ s u sf _ uf _ l. same_tests _ _ (λ h. between_cases s u t h
      (λ r. absurd (file_off_rank s u t l r))
      (λ f. file_forth s u t uf sf tf l f)
      (λ d. absurd (line_off_cross s t (first_true (in_line s t) _ l) (cross_there s u t d))))
      (λ h. or_right _ _ (or_left _ _ (file_back s u t uf sf tf l h)));
}

rank_forth : (s u t : Square) → u.file < 8 → s.file < 8 → t.file < 8 → (in_line s t && not (is_steep s t)) ≡ true
    → between_on_rank s u t ≡ true → ((in_line u t && not (is_steep u t)) && inside (cell_of s) (cell_of u) (cell_of t)) ≡ true
rank_forth s u t uf sf tf h g = grind (arith, nat_tests)

rank_means : (s t : Square) → (in_line s t && not (is_steep s t)) ≡ true → s.rank ≡ t.rank
rank_means s t h = grind arith

rank_back : (s u t : Square) → u.file < 8 → s.file < 8 → t.file < 8 → (in_line s t && not (is_steep s t)) ≡ true
    → ((in_line u t && not (is_steep u t)) && inside (cell_of s) (cell_of u) (cell_of t)) ≡ true → between_on_rank s u t ≡ true
rank_back s u t uf sf tf h g = grind (arith, nat_tests, inside_means, rank_means)

rank_off_file : (s u t : Square) → (in_line s t && not (is_steep s t)) ≡ true → between_on_file s u t ≡ true → ⊥
rank_off_file s u t h g = grind arith

pub rank_line : (t : Square) → t.file < 8 → IsLine (λ s. in_line s t && not (is_steep s t)) t
rank_line t tf = record {
  apart = line_leaves (not (is_steep t t)) t;
  between = λ s u sf _ uf _ l. same_tests _ _ (λ h. between_cases s u t h
      (λ r. rank_forth s u t uf sf tf l r)
      (λ f. absurd (rank_off_file s u t l f))
      (λ d. absurd (line_off_cross s t (first_true (in_line s t) _ l) (cross_there s u t d))))
      (λ h. or_left _ _ (rank_back s u t uf sf tf l h));
}
