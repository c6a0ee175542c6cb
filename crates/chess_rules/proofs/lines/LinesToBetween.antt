-- The table of the squares between two is made of those of the lines through one.
use Rattle.chess_rules.proofs.Words.{Square, has, word, Places, square_at, cell_of, inside, in_line, on_diagonal, is_steep, IsLine, strictly_between, ℕ, ◌+◌, ◌-◌, ◌*◌, ◌/◌, ◌%◌, ◌^◌, ◌<◌, ◌≡◌, Bool, true, false, not, ◌&&◌, ◌||◌, get_or, map, refl, sym, ◌∙◌, ap, ap₂, arith, nat_lt, nat_tests, range_with_len, w64, bit_not, if◌then◌else◌, and_from, bit_at_mask_inside, bit_at_mask_below, bit_at_mask_above, bit_and, bit_or}
use Rattle.chess_rules.proofs.sets.TablesOfSquares.{mask, mask_to, numbers, table_at, table_places}
use Rattle.chess_rules.proofs.sets.WordsToCells.{has_and, has_or, has_not, has_zero, word_fits}
use Rattle.chess_rules.proofs.lines.LinesThrough.{file_line, rank_line, rising_line, falling_line}
use Rattle.chess_rules.specs.declared.tables.TheConstants.{LINES, DIAGONALS, STEEP, BETWEEN}

-- the three tables of lines, each compared with its rule
pub tables : (LINES ≡ map (mask_to in_line) (numbers 64 0))
    × ((DIAGONALS ≡ map (mask_to on_diagonal) (numbers 64 0)) × (STEEP ≡ map (mask_to is_steep) (numbers 64 0)))
unfolding mask_to mask word
tables = (refl, (refl, refl))

-- the places strictly between two
unfoldable gap_word : ℕ → ℕ → ℕ
gap_word i j = bit_or (2 ^ j - 2 ^ (i + 1)) (2 ^ i - 2 ^ (j + 1))

-- those on a line through j: by whether i is on its rank or file, on a diagonal of it, and steep
unfoldable of_line : (in_line on_diagonal is_steep : Bool) (lines diagonals steep i j : ℕ) → ℕ
of_line x y z lines diagonals steep i j =
    bit_and (bit_and (if x then lines else if y then diagonals else 0) (if z then steep else bit_not w64 steep)) (gap_word i j)

abbrev by_words : (lines diagonals steep i j : ℕ) → ℕ
by_words lines diagonals steep i j = of_line (has lines i) (has diagonals i) (has steep i) lines diagonals steep i j

abbrev by_lines : ℕ → ℕ → ℕ
by_lines i j = by_words (get_or LINES j 0) (get_or DIAGONALS j 0) (get_or STEEP j 0) i j

between_table : BETWEEN ≡ map (λ n. by_lines (n / 64) (n % 64)) (numbers 4096 0)
unfolding of_line gap_word has
between_table = refl

run_has : (i j k : ℕ) → has (2 ^ j - 2 ^ (i + 1)) k ≡ (nat_lt i k && nat_lt k j)
unfolding has
run_has i j k = grind (arith, bit_at_mask_inside, bit_at_mask_below, bit_at_mask_above)

gap_has : (i j k : ℕ) → has (gap_word i j) k ≡ inside (cell_of (square_at i)) (cell_of (square_at k)) (cell_of (square_at j))
unfolding gap_word
gap_has i j k = has_or _ _ k ∙ (ap₂ (λ x y. x || y) (run_has i j k) (run_has j i k) ∙ grind arith)

module _ (lines diagonals steep i j : ℕ) (i_low : i < 64) (j_low : j < 64) (fits : steep < 2 ^ 64)
    (of_lines : Places lines (λ s. in_line s (square_at j))) (of_diagonals : Places diagonals (λ s. on_diagonal s (square_at j)))
    (of_steep : Places steep (λ s. is_steep s (square_at j))) where
  along : (line : Square → Bool) (set k : ℕ) → k < 64 → IsLine line (square_at j) → line (square_at i) ≡ true
      → has set k ≡ line (square_at k) → has (bit_and set (gap_word i j)) k ≡ strictly_between (square_at i) (square_at k) (square_at j)
  along line set k low is there e =
      has_and set (gap_word i j) k ∙ (ap₂ (λ x y. x && y) e (gap_has i j k)
      ∙ sym (is.between (square_at i) (square_at k) (omega arith) (omega arith) (omega arith) (omega arith) there))

  both : (a b k : ℕ) (x y : Bool) → has a k ≡ x → has b k ≡ y → has (bit_and a b) k ≡ (x && y)
  both a b k x y f g = has_and a b k ∙ ap₂ (λ v w. v && w) f g

  place : (x y z : Bool) (k : ℕ) → k < 64 → in_line (square_at i) (square_at j) ≡ x → on_diagonal (square_at i) (square_at j) ≡ y
      → is_steep (square_at i) (square_at j) ≡ z
      → has (of_line x y z lines diagonals steep i j) k ≡ strictly_between (square_at i) (square_at k) (square_at j)
  unfolding of_line
  place true y true k low a b c =
      along _ _ k low (file_line (square_at j) (omega arith)) (and_from _ _ a c) (both _ _ k _ _ (of_lines.of k low) (of_steep.of k low))
  place true y false k low a b c =
      along _ _ k low (rank_line (square_at j) (omega arith)) (and_from _ _ a (ap not c))
      (both _ _ k _ _ (of_lines.of k low) (has_not steep k fits low ∙ ap not (of_steep.of k low)))
  place false true true k low a b c =
      along _ _ k low (rising_line (square_at j) (omega arith)) (and_from _ _ b c) (both _ _ k _ _ (of_diagonals.of k low) (of_steep.of k low))
  place false true false k low a b c =
      along _ _ k low (falling_line (square_at j) (omega arith)) (and_from _ _ b (ap not c))
      (both _ _ k _ _ (of_diagonals.of k low) (has_not steep k fits low ∙ ap not (of_steep.of k low)))
  place false false z k low a b c = grind (arith, nat_tests, has_zero)

  places : Places (by_words lines diagonals steep i j) (λ u. strictly_between (square_at i) u (square_at j))
  places = record { of = λ k low. place _ _ _ k low (sym (of_lines.of i i_low)) (sym (of_diagonals.of i i_low)) (sym (of_steep.of i i_low)) }

pub between_places : (s t : Square) (i j n : ℕ) → square_at i ≡ s → square_at j ≡ t → i < 64 → j < 64
    → n ≡ get_or BETWEEN (64 * i + j) 0 → Places n (λ u. strictly_between s u t)
unfolding mask_to mask
between_places s t i j n from to i_low j_low is =
    let first : (64 * i + j) / 64 ≡ i = omega arith in
    let second : (64 * i + j) % 64 ≡ j = omega arith in
    let entry = table_at (λ m. by_lines (m / 64) (m % 64)) BETWEEN 4096 (64 * i + j) between_table (omega arith) in
    let fits : mask (λ s. is_steep s (square_at j)) < 2 ^ 64 = word_fits _ (range_with_len 0 64) in
    let there =
    places _ _ _ i j i_low j_low
    (omega (arith, table_at (mask_to is_steep) STEEP 64 j tables.1.1 j_low))
    (table_places in_line LINES (square_at j) j _ tables.0 refl j_low refl)
    (table_places on_diagonal DIAGONALS (square_at j) j _ tables.1.0 refl j_low refl)
    (table_places is_steep STEEP (square_at j) j _ tables.1.1 refl j_low refl) in
    record {
      of = λ k low.
          ap (λ m. has m k) (is ∙ (entry ∙ ap₂ by_lines first second))
          ∙ (there.of k low ∙ ap₂ (λ v w. strictly_between v (square_at k) w) from to);
    }
