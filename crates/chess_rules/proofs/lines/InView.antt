-- On a line through a square, the nearest piece on either side is the one in view. So at most eight
-- pieces are in view of a square.
use Rattle.chess_rules.proofs.Words.{Square, squares, inside, in_line, on_diagonal, strictly_between, Board, at, cell_of, is_empty, is_clear, IsLine, is_steep, square_at, has, Places, ◌≡◌, ◌≢◌, ℕ, ◌<◌, ◌≤◌, Bool, true, not, ◌&&◌, ◌||◌, length, sym, ◌∙◌, ap, ap₂, arith, filter, is_some, nat_lt, false≢true, and_from, common_steps, ltb-true, ltb-false, not-true, rules}
use Rattle.chess_rules.proofs.sets.AllSquares.{first_true, second_true, each_square, not_true, cell_of-square_at}
use Rattle.chess_rules.proofs.sets.SetsToSquares.{at_square, one_kept}
use Rattle.chess_rules.proofs.trying.FoundLists.{kept_either, kept_more}
use Rattle.chess_rules.proofs.lines.AttackToReach.{clear_if, is_in_view, is_open, not_empty}
use Rattle.chess_rules.proofs.lines.LinesThrough.{file_line, rank_line, rising_line, falling_line, inside_up, inside_down}

pub strict : (m n : ℕ) → m ≤ n → (m ≡ n → ⊥) → m < n
strict m n a g = grind (arith, g)

-- One line through t.
module _ (b : Board) {t : Square} {line : Square → Bool} (on : IsLine line t) where
  -- a piece between blocks the way
  pub blocked : (i j : ℕ) → i < 64 → j < 64 → line (square_at i) ≡ true → line (square_at j) ≡ true
      → is_some (at b (square_at i)) ≡ true → is_clear b (square_at j) t ≡ true → inside j i (cell_of t) ≡ true → ⊥
  blocked i j low high there from full clear between =
      let apart : strictly_between (square_at j) (square_at i) t ≡ true =
      on.between (square_at j) (square_at i) (omega arith) (omega arith) (omega arith) (omega arith) from
      ∙ and_from (line (square_at i)) _ there (ap₂ (λ m n. inside m n (cell_of t)) (cell_of-square_at j) (cell_of-square_at i) ∙ between) in
      let empty : is_empty b (square_at i) ≡ true =
      not_true (strictly_between (square_at j) (square_at i) t) _ apart
      (each_square (λ u. not (strictly_between (square_at j) u t) || is_empty b u) (square_at i) clear (omega arith) (omega arith)) in
      false≢true (sym (not_empty b (square_at i) full) ∙ empty)

  -- no piece between leaves it clear
  pub clear_when : (j : ℕ) → j < 64 → line (square_at j) ≡ true
      → ((u : Square) → u.file < 8 → u.rank < 8 → line u ≡ true → inside j (cell_of u) (cell_of t) ≡ true → is_empty b u ≡ true)
      → is_clear b (square_at j) t ≡ true
  clear_when j low from h =
      clear_if b (square_at j) t (λ u f r between.
      let both : (line u && inside (cell_of (square_at j)) (cell_of u) (cell_of t)) ≡ true =
      sym (on.between (square_at j) u (omega arith) (omega arith) f r from) ∙ between in
      h u f r (first_true (line u) _ both)
      (ap (λ m. inside m (cell_of u) (cell_of t)) (sym (cell_of-square_at j)) ∙ second_true (line u) _ both))

  pub not_there : (i : ℕ) → i < 64 → line (square_at i) ≡ true → t.file < 8 → i ≢ cell_of t
  not_there i low here file e = grind arith

-- How many are in view.

-- of the pieces on one line, those on one side of t
abbrev one_side : Board → Square → (Square → Bool) → (Square → Bool) → Square → Bool
one_side b t line side s = (line s && is_open b t s) && side s

module _ (b : Board) (t : Square) (line : Square → Bool) (tf : t.file < 8) (on : IsLine line t) where
  apart : (i j : ℕ) → i < 64 → j < 64 → (line (square_at i) && is_open b t (square_at i)) ≡ true
      → (line (square_at j) && is_open b t (square_at j)) ≡ true → inside j i (cell_of t) ≡ true → ⊥
  apart i j low high h g = search (rules, blocked, first_true, second_true)

  one_before : length (filter (one_side b t line (λ s. nat_lt (cell_of s) (cell_of t))) squares) ≤ 1
  one_before =
      one_kept (one_side b t line (λ s. nat_lt (cell_of s) (cell_of t))) (λ i j less high h g.
      let there : nat_lt (cell_of (square_at j)) (cell_of t) ≡ true = second_true (line (square_at j) && is_open b t (square_at j)) _ g in
      let last : j < cell_of t = omega (arith, ltb-true (cell_of (square_at j)) (cell_of t) there) in
      apart j i high (omega arith) (first_true _ _ g) (first_true _ _ h) (inside_up i j (cell_of t) less last))

  one_after : length (filter (one_side b t line (λ s. not (nat_lt (cell_of s) (cell_of t)))) squares) ≤ 1
  one_after =
      one_kept (one_side b t line (λ s. not (nat_lt (cell_of s) (cell_of t)))) (λ i j less high h g.
      let low : i < 64 = omega arith in
      let past : cell_of t ≤ i = omega (arith, ltb-false (cell_of (square_at i)) (cell_of t) (not-true _ (second_true (line (square_at i) && is_open b t (square_at i)) _ h))) in
      let other : i ≢ cell_of t = not_there b on i low (first_true (line (square_at i)) _ (first_true _ _ h)) tf in
      apart i j low high (first_true _ _ h) (first_true _ _ g) (inside_down j i (cell_of t) (strict (cell_of t) i past (λ e. other (sym e))) less))

  pub two_on_line : length (filter (λ s. line s && is_open b t s) squares) ≤ 2
  two_on_line =
      omega (
        arith,
        one_before,
        one_after,
        kept_either (one_side b t line (λ s. nat_lt (cell_of s) (cell_of t)))
            (one_side b t line (λ s. not (nat_lt (cell_of s) (cell_of t)))) squares,
        kept_more (λ s. line s && is_open b t s)
            (λ s. one_side b t line (λ u. nat_lt (cell_of u) (cell_of t)) s || one_side b t line (λ u. not (nat_lt (cell_of u) (cell_of t))) s)
            squares (λ s h. on_a_side (line s && is_open b t s) (nat_lt (cell_of s) (cell_of t)) h),
      )
    where
      on_a_side : (x y : Bool) → x ≡ true → ((x && y) || (x && not y)) ≡ true
      on_a_side x y h = grind arith

-- four lines together

abbrev pub on_file : Square → Square → Bool
on_file t s = in_line s t && is_steep s t

abbrev pub on_rank : Square → Square → Bool
on_rank t s = in_line s t && not (is_steep s t)

abbrev pub on_rising : Square → Square → Bool
on_rising t s = on_diagonal s t && is_steep s t

abbrev pub on_falling : Square → Square → Bool
on_falling t s = on_diagonal s t && not (is_steep s t)

-- those of a line that are open
abbrev open_on : Board → Square → (Square → Bool) → Square → Bool
open_on b t line s = line s && is_open b t s

pub four_lines : (a d e v : Bool) → (((((a && e) && v) || ((a && not e) && v)) || ((d && e) && v)) || ((d && not e) && v)) ≡ ((a || d) && v)
four_lines a d e v = grind arith

pub few_in_view : (b : Board) (t : Square) → t.file < 8 → length (filter (is_in_view b t) squares) ≤ 8
few_in_view b t tf =
    omega (
      arith,
      kept_more (is_in_view b t)
          (λ s. ((open_on b t (on_file t) s || open_on b t (on_rank t) s) || open_on b t (on_rising t) s) || open_on b t (on_falling t) s) squares
          (λ s h. four_lines (in_line s t) (on_diagonal s t) (is_steep s t) (is_open b t s) ∙ h),
      kept_either (λ s. (open_on b t (on_file t) s || open_on b t (on_rank t) s) || open_on b t (on_rising t) s)
          (open_on b t (on_falling t)) squares,
      kept_either (λ s. open_on b t (on_file t) s || open_on b t (on_rank t) s) (open_on b t (on_rising t)) squares,
      kept_either (open_on b t (on_file t)) (open_on b t (on_rank t)) squares,
      two_on_line b t (on_file t) tf (file_line t tf),
      two_on_line b t (on_rank t) tf (rank_line t tf),
      two_on_line b t (on_rising t) tf (rising_line t tf),
      two_on_line b t (on_falling t) tf (falling_line t tf),
    )

-- a line as a set of the board's squares

pub line_of_set : {line : Square → Bool} {t : Square} {w : ℕ} → t.file < 8
    → t.rank < 8 → IsLine line t → Places w line → IsLine (λ s. has w (cell_of s)) t
line_of_set {line} {t} {w} tf tr on h = grind (arith, common_steps, apart, at_square)
