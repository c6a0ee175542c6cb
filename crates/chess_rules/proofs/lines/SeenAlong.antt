-- The squares that are seen from a square: on each line through it, those up to the nearest pieces.
use Rattle.chess_rules.proofs.Words.{Square, inside, on_diagonal, between_on_rank, between_on_file, between_on_diagonal, strictly_between, Board, at, cell_of, is_empty, is_clear, is_aligned, IsLine, square_at, Bits, has, IsFrom, IsUpTo, Places, ◌≡◌, ◌≢◌, ℕ, ◌<◌, ◌≤◌, Bool, true, false, not, ◌&&◌, ◌||◌, ◌⊎◌, inl, inr, List, sym, ◌∙◌, ap₂, arith, is_some, nat_lt, list_all, not-true, and_from, nat_tests, false_from_ne_true, common_steps, ltb-true, lt-ltb, ltb-false, le-ltb}
use Rattle.chess_rules.proofs.sets.AllSquares.{first_true, second_true, same_tests}
use Rattle.chess_rules.proofs.lines.InView.{strict, blocked, clear_when, not_there, on_falling, on_file, on_rank, on_rising, four_lines}
use Rattle.chess_rules.proofs.lines.LinesThrough.{inside_means, inside_up, inside_down}

-- One line through t, of which `up` has the pieces from t on and `down` those before it.
module _ (b : Board) (t : Square) (line occupied up down high low : ℕ) (tf : t.file < 8) (tr : t.rank < 8)
    (on : IsLine (λ s. has line (cell_of s)) t) (pieces : Places occupied (λ s. is_some (at b s)))
    (after : (i : ℕ) → i < 64 → has up i ≡ ((has line i && has occupied i) && not (nat_lt i (cell_of t))))
    (before : (i : ℕ) → i < 64 → has down i ≡ ((has line i && has occupied i) && nat_lt i (cell_of t)))
    (up_to : IsUpTo up high) (from : IsFrom down low) where
  on_line : (i : ℕ) → i < 64 → has line i ≡ true → has line (cell_of (square_at i)) ≡ true
  on_line i h e = grind arith

  -- a square of the line with no piece that counts is empty
  empty_there : (u : Square) (side : Bool) → u.file < 8 → u.rank < 8 → has line (cell_of u) ≡ true
      → side ≡ true → ((has line (cell_of u) && has occupied (cell_of u)) && side) ≡ false → is_empty b u ≡ true
  empty_there u side f r here is none = grind arith

  seen_clear : (i : ℕ) → i < 64 → has line i ≡ true → has high i ≡ true → has low i ≡ true → is_clear b (square_at i) t ≡ true
  seen_clear i h here up_to_i from_i =
      clear_when b on i h (on_line i h here) (λ u f r on_u between. empty_between u f r on_u (inside_means _ _ _ between))
    where
      empty_between : (u : Square) → u.file < 8 → u.rank < 8 → has line (cell_of u) ≡ true
          → ((i < cell_of u) × (cell_of u < cell_of t)) ⊎ ((cell_of t < cell_of u) × (cell_of u < i)) → is_empty b u ≡ true
      empty_between u f r on_u (inl x) = grind (arith, common_steps, empty_there, lt-ltb)
      empty_between u f r on_u (inr x) = grind (arith, common_steps, empty_there, le-ltb)

  module _ (i : ℕ) (h : i < 64) (here : has line i ≡ true) (clear : is_clear b (square_at i) t ≡ true) where
    -- no other piece of the line is between
    none_between : (k : ℕ) → k < 64 → inside i k (cell_of t) ≡ true → (has line k && has occupied k) ≡ true → ⊥
    none_between k low_k between both =
        blocked b on k i low_k h (on_line k low_k (first_true (has line k) _ both)) (on_line i h here)
        (sym (pieces.of k low_k) ∙ second_true (has line k) _ both) clear between

    clear_up : has high i ≡ true
    clear_up =
        up_to.here i h (λ k less. false_from_ne_true (has up k) (λ g.
        let low_k : k < 64 = omega arith in
        let all : ((has line k && has occupied k) && not (nat_lt k (cell_of t))) ≡ true = sym (after k low_k) ∙ g in
        let both : (has line k && has occupied k) ≡ true = first_true _ (not (nat_lt k (cell_of t))) all in
        let past : cell_of t ≤ k = ltb-false k (cell_of t) (not-true _ (second_true (has line k && has occupied k) _ all)) in
        let other : k ≢ cell_of t =
        not_there b on k low_k (on_line k low_k (first_true (has line k) _ both)) tf in
        none_between k low_k (inside_down i k (cell_of t) (strict (cell_of t) k past (λ s. other (sym s))) less) both))

    clear_down : has low i ≡ true
    clear_down =
        from.here i h (λ k more low_k. false_from_ne_true (has down k) (λ g.
        let all : ((has line k && has occupied k) && nat_lt k (cell_of t)) ≡ true = sym (before k low_k) ∙ g in
        let both : (has line k && has occupied k) ≡ true = first_true _ (nat_lt k (cell_of t)) all in
        none_between k low_k
        (inside_up i k (cell_of t) more (ltb-true k (cell_of t) (second_true (has line k && has occupied k) _ all))) both))

  pub seen_places : (seen : ℕ) → ((i : ℕ) → i < 64 → has seen i ≡ (has line i && (has high i && has low i)))
      → Places seen (λ s. has line (cell_of s) && is_clear b s t)
  seen_places seen all =
      grind (arith, common_steps, same_tests, seen_clear, first_true, second_true, and_from, clear_up, clear_down)

-- The way back is the same.

rank_back : (s u t : Square) → between_on_rank s u t ≡ between_on_rank t u s
rank_back s u t = grind (arith, nat_tests)

file_back : (s u t : Square) → between_on_file s u t ≡ between_on_file t u s
file_back s u t = grind (arith, nat_tests)

diagonal_back : (s t : Square) → on_diagonal s t ≡ on_diagonal t s
diagonal_back s t = grind arith

diagonal_there : (s u t : Square) → between_on_diagonal s u t ≡ true → between_on_diagonal t u s ≡ true
diagonal_there s u t h =
    grind (arith, common_steps, first_true, second_true, and_from, diagonal_back)

between_back : (s u t : Square) → strictly_between s u t ≡ strictly_between t u s
between_back s u t =
    ap₂ (λ x y. x || y) (rank_back s u t)
    (ap₂ (λ x y. x || y) (file_back s u t) (same_tests _ _ (diagonal_there s u t) (diagonal_there t u s)))

all_same : (f g : Square → Bool) (xs : List Square) → ((s : Square) → f s ≡ g s) → list_all f xs ≡ list_all g xs
all_same f g xs h = grind arith

pub clear_back : (b : Board) (s t : Square) → is_clear b s t ≡ is_clear b t s
clear_back b s t = grind (arith, common_steps, all_same, between_back)

pub aligned_back : (s t : Square) → is_aligned s t ≡ is_aligned t s
aligned_back s t = grind arith

-- Four lines together.
pub seen_by_lines : (b : Board) (t : Square) (v w x y k l m n two three four : ℕ) → Bits two (λ i. has k i || has l i)
    → Bits three (λ i. has two i || has m i) → Bits four (λ i. has three i || has n i) → t.file < 8 → t.rank < 8
    → Places v (on_file t) → Places w (on_rank t) → Places x (on_rising t) → Places y (on_falling t)
    → Places k (λ s. has v (cell_of s) && is_clear b s t) → Places l (λ s. has w (cell_of s) && is_clear b s t)
    → Places m (λ s. has x (cell_of s) && is_clear b s t) → Places n (λ s. has y (cell_of s) && is_clear b s t)
    → Places four (λ s. is_aligned s t && is_clear b s t)
seen_by_lines b t v w x y k l m n two three four joins more all tf tr pv pw px py pk pl pm pn = grind (arith, four_lines)
