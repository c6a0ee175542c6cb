-- The sets of the code have exactly the candidates.
use Rattle.chess_rules.proofs.Words.{Colour, Kind, King, Knight, Parts, Square, squares, Board, at, cell_of, has_piece, own, is_clear, candidates, is_candidate, lone, sees, may_see, square_at, has, members, Places, ◌≡◌, ℕ, ◌<◌, ◌≤◌, Bool, true, ◌&&◌, List, [], ◌∷◌, length, refl, sym, ◌∙◌, ap, ap₂, arith, Option, is_some, is_adjacent, has_colour, is_aligned, king_square, Bits, is_king_step, is_untried, is_untried_aligned, count_untried, ◌+◌, not, ◌||◌, filter, list_any, sum_by, sum_by-cons, nat_tests, common_steps}
use Rattle.chess_rules.proofs.sets.AllSquares.{cell_of-square_at}
use Rattle.chess_rules.proofs.trying.CandidatesAreFew.{few_candidates}
use Rattle.chess_rules.proofs.lines.AttackToReach.{jump_clear, with_second}
use Rattle.chess_rules.proofs.trying.FoundLists.{kept_more, kept_twice}
use Rattle.chess_rules.proofs.sets.SetsToSquares.{members_are}

module _ (p : Parts) where
  pub own_places : (k : Kind) (d : Colour) (b : Board) (w : ℕ) → d ≡ p.side → b ≡ p.board → Places w (λ s. has_piece d k (at b s))
      → Places w (own p k)
  own_places k d b w side board h = grind arith

  -- what is seen is seen by a clear way
  sees_is : (k : Kind) (s t : Square) → sees k p s t ≡ (may_see k s t && is_clear p.board s t)
  sees_is k s t = grind (arith, common_steps, with_second, jump_clear)

  pub jumps_are : (k : Kind) (t : Square) (r : ℕ) → k ≡ Knight → Places r (λ s. own p k s && may_see k s t) → members r ≡ candidates p k t
  jumps_are k t r knight h = grind (arith, common_steps, members_are)

  pub clear_are : (k : Kind) (t : Square) (b : Board) (r clear : ℕ) → b ≡ p.board → Places r (λ s. own p k s && may_see k s t)
      → Places clear (λ s. has r (cell_of s) && is_clear b s t) → members clear ≡ candidates p k t
  clear_are k t b r clear board h f =
      members_are clear (is_candidate p k t)
      (λ i low.
      f.of i low
      ∙ (ap₂ (λ x (c : Board). x && is_clear c (square_at i) t) (ap (has r) (cell_of-square_at i) ∙ h.of i low) board
      ∙ (in_turn (own p k (square_at i)) (may_see k (square_at i) t) (is_clear p.board (square_at i) t)
      ∙ ap (λ x. own p k (square_at i) && x) (sym (sees_is k (square_at i) t)))))
    where
      in_turn : (x y z : Bool) → ((x && y) && z) ≡ (x && (y && z))
      in_turn x y z = grind arith

  -- one by one, those of the set from which the way is clear
  pub clear_one_by_one : (k : Kind) (t : Square) (r : ℕ) → Places r (λ s. own p k s && may_see k s t)
      → filter (λ s. is_clear p.board s t) (members r) ≡ candidates p k t
  clear_one_by_one k t r h =
      ap (filter (λ s. is_clear p.board s t)) (members_are r (λ s. own p k s && may_see k s t) h.of)
      ∙ kept_twice (λ s. own p k s && may_see k s t) (λ s. is_clear p.board s t) (is_candidate p k t)
      (λ s. ap (λ x. own p k s && x) (sees_is k s t) ∙ in_turn (own p k s) (may_see k s t) (is_clear p.board s t)) squares
    where
      in_turn : (x y z : Bool) → (x && (y && z)) ≡ ((x && y) && z)
      in_turn x y z = grind arith

  -- Without looking at what stands between.

  pub one_may_see : (k : Kind) (t : Square) (r : ℕ) (only : Option Square) → Places r (λ s. own p k s && may_see k s t) → only ≡ lone (members r)
      → is_some only ≡ true → length (candidates p k t) ≤ 1
  one_may_see k t r only h is some =
      omega (
        arith,
        one_of (members r) (sym (ap is_some is) ∙ some),
        ap length (members_are r (λ s. own p k s && may_see k s t) h.of),
        kept_more (is_candidate p k t) (λ s. own p k s && may_see k s t) squares seen,
      )
    where
      one_of : (xs : List Square) → is_some (lone xs) ≡ true → length xs ≤ 1
      one_of xs e = grind (arith, common_steps)

      seen : (s : Square) → is_candidate p k t s ≡ true → (own p k s && may_see k s t) ≡ true
      seen s e = grind arith

  pub few_there : (k : Kind) (t : Square) → t.file < 8 → t.rank < 8 → length (candidates p k t) ≤ 8
  few_there k t tf tr = grind (arith, few_candidates)

  -- The sets whose members are tried have the pairs of the definitions.

  -- the pieces of the side to move
  pub colour_places : (d : Colour) (b : Board) (w : ℕ) → d ≡ p.side → b ≡ p.board → Places w (λ s. has_colour d (at b s))
      → Places w (λ s. has_colour p.side (at p.board s))
  colour_places d b w side board h = grind arith

  -- The king's steps that are tried first.

  pub steps_are : (k : Square) (near owns rest steps : ℕ) → k ≡ king_square p.side p.board → Bits rest (λ i. not (has owns i))
      → Bits steps (λ i. has near i && has rest i) → Places near (λ s. is_adjacent s k) → Places owns (λ s. has_colour p.side (at p.board s))
      → Places steps (is_king_step p)
  steps_are k near owns rest steps king misses meets h g = grind arith

  pub step_tried : (t : Square) (w place : ℕ) (r : Bool) → Places w (is_king_step p) → place ≡ cell_of t → t.file < 8 → t.rank < 8
      → r ≡ has w place → r ≡ is_king_step p t
  step_tried t w place r h is file rank e = grind (arith, nat_tests)

  -- The pieces that are still to be tried for a target.

  pub king_left_out : (t : Square) (pieces kings rest left : ℕ) → is_king_step p t ≡ true → Bits rest (λ i. not (has kings i))
      → Bits left (λ i. has pieces i && has rest i) → Places kings (own p King)
      → Places left (λ s. has pieces (cell_of s) && not (is_king_step p t && own p King s))
  king_left_out t pieces kings rest left step misses meets h = grind arith

  pub aligned_left : (t : Square) (b : Board) (owns knights rest others lines pieces left clear : ℕ) → b ≡ p.board
      → Bits rest (λ i. not (has knights i)) → Bits others (λ i. has owns i && has rest i) → Bits pieces (λ i. has others i && has lines i)
      → Places owns (λ s. has_colour p.side (at p.board s)) → Places knights (own p Knight) → Places lines (λ s. is_aligned s t)
      → Places left (λ s. has pieces (cell_of s) && not (is_king_step p t && own p King s))
      → Places clear (λ s. has left (cell_of s) && is_clear b s t) → Places clear (is_untried_aligned p t)
  aligned_left t b owns knights rest others lines pieces left clear board misses meets both of_owns of_knights of_lines of_left of_clear =
      grind arith

-- The members of a set, and then all other squares.

any_parts : (test kept : Square → Bool) (xs : List Square)
    → (list_any test (filter kept xs) || list_any test (filter (λ s. not (kept s)) xs)) ≡ list_any test xs
any_parts test kept [] = refl
any_parts test kept (x ∷ xs) = grind (arith, common_steps, (any_parts test kept xs))

sum_parts : (cost : Square → ℕ) (kept : Square → Bool) (xs : List Square)
    → sum_by cost (filter kept xs) + sum_by cost (filter (λ s. not (kept s)) xs) ≡ sum_by cost xs
sum_parts cost kept [] = refl
sum_parts cost kept (x ∷ xs) = grind (arith, common_steps, sum_by-cons, (sum_parts cost kept xs))

others : (w r : ℕ) → Bits r (λ i. not (has w i)) → members r ≡ filter (λ s. not (has w (cell_of s))) squares
others w r rest = members_are r (λ s. not (has w (cell_of s))) (λ i low. rest.of i low ∙ ap (λ j. not (has w j)) (sym (cell_of-square_at i)))

pub any_both : (test : Square → Bool) (w r : ℕ) → Bits r (λ i. not (has w i))
    → (list_any test (members w) || list_any test (members r)) ≡ list_any test squares
unfolding members
any_both test w r rest =
    ap (λ xs. list_any test (members w) || list_any test xs) (others w r rest) ∙ any_parts test (λ s. has w (cell_of s)) squares

pub sum_both_sets : (cost : Square → ℕ) (w r : ℕ) → Bits r (λ i. not (has w i))
    → sum_by cost (members w) + sum_by cost (members r) ≡ sum_by cost squares
unfolding members
sum_both_sets cost w r rest = grind (arith, others, sum_parts)

-- How many pairs are tried for a target.

pub untried_are : (p : Parts) (t : Square) (w : ℕ) → Places w (is_untried p t) → members w ≡ filter (is_untried p t) squares
untried_are p t w h = members_are w (is_untried p t) h.of

pub untried_counted : (p : Parts) (t : Square) (w : ℕ) → Places w (is_untried p t) → length (members w) ≡ count_untried p t
unfolding count_untried
untried_counted p t w h = ap length (untried_are p t w h)
