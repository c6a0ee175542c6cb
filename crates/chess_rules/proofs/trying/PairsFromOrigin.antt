-- The pairs that are tried, origin by origin, are those that are tried target by target.
use Rattle.chess_rules.proofs.Words.{King, Knight, Parts, Square, squares, is_jump, at, cell_of, has_colour, own, is_clear, is_aligned, square_at, has, members, Places, Bits, TakesLowest, is_king_step, is_untried, count_untried, ◌≡◌, ℕ, ◌+◌, ◌<◌, Bool, true, false, not, cond, ◌&&◌, ◌||◌, List, [], ◌∷◌, length, refl, sym, ◌∙◌, ap, ap₂, arith, filter, sum_by, sum_by-cons, rules, common_steps}
use Rattle.chess_rules.proofs.lines.SeenAlong.{clear_back, aligned_back}
use Rattle.chess_rules.proofs.sets.SetsToSquares.{members_are}
use Rattle.chess_rules.proofs.trying.PairCounts.{bit, length_by_bits, sum_none, sum_same, sum_swap}
use Rattle.chess_rules.proofs.trying.SearchThatCounts.{CountsLeft, next_counts}

-- The targets of one origin.

pub jump_back : (s t : Square) → is_jump s t ≡ is_jump t s
jump_back s t = grind arith

module _ (p : Parts) (s t : Square) where
  pub knight_pair : own p Knight s ≡ true → is_jump t s ≡ is_untried p t s
  knight_pair knight = search (rules, jump_back)

  pub seen_back : (is_aligned t s && is_clear p.board t s) ≡ (is_aligned s t && is_clear p.board s t)
  seen_back = ap₂ (λ x y. x && y) (aligned_back t s) (clear_back p.board t s)

  pub other_pair : has_colour p.side (at p.board s) ≡ true → own p Knight s ≡ false → own p King s ≡ false
      → (is_aligned t s && is_clear p.board t s) ≡ is_untried p t s
  other_pair mine knight king =
      seen_back ∙ by_tests (own p Knight s) (is_jump s t) (has_colour p.side (at p.board s)) (is_aligned s t)
      (is_king_step p t) (own p King s) (is_clear p.board s t) mine knight king
    where
      by_tests : (n j c a k o w : Bool) → c ≡ true → n ≡ false → o ≡ false
          → (a && w) ≡ ((n && j) || ((((c && not n) && a) && not (k && o)) && w))
      by_tests n j c a k o w h g f = grind arith

  pub king_pair : has_colour p.side (at p.board s) ≡ true → own p Knight s ≡ false → own p King s ≡ true
      → ((is_aligned t s && is_clear p.board t s) && not (is_king_step p t)) ≡ is_untried p t s
  king_pair mine knight king =
      ap (λ x. x && not (is_king_step p t)) seen_back
      ∙ by_tests (own p Knight s) (is_jump s t) (has_colour p.side (at p.board s)) (is_aligned s t)
      (is_king_step p t) (own p King s) (is_clear p.board s t) mine knight king
    where
      by_tests : (n j c a k o w : Bool) → c ≡ true → n ≡ false → o ≡ true
          → ((a && w) && not k) ≡ ((n && j) || ((((c && not n) && a) && not (k && o)) && w))
      by_tests n j c a k o w h g f = grind arith

  pub none_but_own : has_colour p.side (at p.board s) ≡ false → is_untried p t s ≡ false
  none_but_own other = grind arith

-- Sums both ways.

pub sum_kept : {X : Type 0} (cost : X → ℕ) (kept : X → Bool) (xs : List X)
    → sum_by cost (filter kept xs) ≡ sum_by (λ x. cond (kept x) (cost x) 0) xs
sum_kept cost kept [] = refl
sum_kept {X = X} cost kept (x ∷ xs) = grind (arith, common_steps, sum_by-cons, (sum_kept cost kept xs))

-- how many targets of the set are to be tried from s
abbrev pub count_from : Parts → ℕ → Square → ℕ
count_from p w s = length (filter (λ t. has w (cell_of t) && is_untried p t s) squares)

-- the squares of the side to move
abbrev pub own_squares : Parts → List Square
own_squares p = filter (λ s. has_colour p.side (at p.board s)) squares

module _ (p : Parts) (w : ℕ) where
  -- 1 if the pair is to be tried
  abbrev one : Square → Square → ℕ
  one t s = bit (has w (cell_of t) && is_untried p t s)

  by_origin : (s : Square) → cond (has_colour p.side (at p.board s)) (count_from p w s) 0 ≡ sum_by (λ t. one t s) squares
  by_origin s = by_colour (has_colour p.side (at p.board s)) refl
    where
      none : (x y : Bool) → y ≡ false → 0 ≡ bit (x && y)
      none x y h = grind arith

      by_colour : (v : Bool) → has_colour p.side (at p.board s) ≡ v → cond v (count_from p w s) 0 ≡ sum_by (λ t. one t s) squares
      by_colour true e = length_by_bits (λ t. has w (cell_of t) && is_untried p t s) squares
      by_colour false e =
          sym (sum_none squares)
          ∙ sum_same (λ t. 0) (λ t. one t s) squares (λ t. none (has w (cell_of t)) (is_untried p t s) (none_but_own p s t e))

  by_target : (t : Square) → cond (has w (cell_of t)) (count_untried p t) 0 ≡ sum_by (λ s. one t s) squares
  unfolding count_untried
  by_target t = by_set (has w (cell_of t))
    where
      by_set : (v : Bool) → cond v (length (filter (is_untried p t) squares)) 0 ≡ sum_by (λ s. bit (v && is_untried p t s)) squares
      by_set true = length_by_bits (is_untried p t) squares
      by_set false = sym (sum_none squares)

  pub counted_by_origins : sum_by (count_from p w) (own_squares p) ≡ sum_by (count_untried p) (members w)
  unfolding members
  counted_by_origins =
      sum_kept (count_from p w) (λ s. has_colour p.side (at p.board s)) squares
      ∙ (sum_same _ (λ s. sum_by (λ t. one t s) squares) squares by_origin
      ∙ (sum_swap (λ s t. one t s) squares squares
      ∙ (sym (sum_same _ (λ t. sum_by (λ s. one t s) squares) squares by_target)
      ∙ sym (sum_kept (count_untried p) (λ t. has w (cell_of t)) squares))))

-- The walk over the origins: each so far was counted, and these are left.
pub record OriginsLeft (p : Parts) (targets left old now : ℕ) : Type 0 where
  pub counts : CountsLeft (count_from p targets) (own_squares p) left old now
  pub mine : (i : ℕ) → i < 64 → has left i ≡ true → has_colour p.side (at p.board (square_at i)) ≡ true

pub targets_counted : (p : Parts) (targets : ℕ) (s : Square) {from both : ℕ} → Bits both (λ i. has targets i && has from i)
    → Places from (λ t. is_untried p t s) → length (members both) ≡ count_from p targets s
targets_counted p targets s {from} {both} meets h = grind (arith, common_steps, members_are)

pub origins_begin : {p : Parts} {targets own old : ℕ} → Places own (λ s. has_colour p.side (at p.board s)) → OriginsLeft p targets own old old
origins_begin {p} {targets} {own} {old} h = grind (arith, common_steps, members_are)

module _ {p : Parts} {targets left rest old now : ℕ} {s : Square} (taken : TakesLowest left rest s) (w : OriginsLeft p targets left old now) where
  pub origin_mine : has_colour p.side (at p.board s) ≡ true
  origin_mine = grind (arith, common_steps)

  -- the count after this origin
  pub origin_counts : now + (count_from p targets s + sum_by (count_from p targets) (members rest))
      ≡ old + sum_by (count_from p targets) (own_squares p)
  origin_counts = next_counts taken w.counts

  pub origins_go_on : {later : ℕ} → later ≡ now + count_from p targets s → OriginsLeft p targets rest old later
  origins_go_on more = grind (arith, common_steps, origin_counts)
