-- At most 1,024 pairs of squares are tried, and at most four moves of each.
use Rattle.chess_rules.proofs.Words.{Parts, Piece, Promotion, Square, squares, square_at, at, has_colour, is_jump, is_tried, one_move, promotions_from, tries_from, tries_to, with_later, Move, own, Knight, is_aligned, is_clear, is_some, ◌≡◌, ℕ, ◌+◌, ◌*◌, ◌<◌, ◌≤◌, Bool, true, not, cond, ◌&&◌, List, [], ◌∷◌, length, map, Option, if◌then◌else◌, refl, sym, ap₂, subst, arith, flat_map, sum_by, sum_by-cons, sum_by-le, sum_by-le-sum_by, common_steps}
use Rattle.std.proofs.lemmas.List.Concat.{length-flat_map}
use Rattle.chess_rules.proofs.sets.AllSquares.{square_in_place, squares_long}
use Rattle.chess_rules.proofs.lines.AttackToReach.{is_in_view}
use Rattle.chess_rules.proofs.lines.InView.{few_in_view}
use Rattle.chess_rules.proofs.moves.CellsAfterPut.{OnBoard}
use Rattle.chess_rules.proofs.trying.CandidatesAreFew.{few_jumps}
use Rattle.chess_rules.proofs.trying.PairCounts.{bit, length_by_bits, sum_both, sum_swap}
use Rattle.chess_rules.proofs.trying.PairsFromOrigin.{jump_back, own_squares, seen_back, sum_kept}

-- Four moves of a pair.

few_promotions : (o : Option Promotion) → length (promotions_from o) ≤ 4
few_promotions o = grind arith

length-map : {X Y : Type 0} (f : X → Y) (xs : List X) → length (map f xs) ≡ length xs
length-map f [] = refl
length-map f (x ∷ xs) = omega (arith, length-map f xs)

four_to : (p : Parts) (s t : Square) → length (tries_to p s t) ≤ 4
unfolding tries_to with_later
four_to p s t = omega (arith, few_promotions (one_move p s t).promotion, length-map {Y = Move} (λ o. record { from = s; to = t; promotion = o }) (promotions_from (one_move p s t).promotion))

sum_four : {X : Type 0} (f : X → ℕ) (xs : List X) → ((x : X) → f x ≤ 4) → sum_by f xs ≤ 4 * length xs
sum_four f [] few = omega arith
sum_four f (x ∷ xs) few = omega (arith, few x, sum_by-cons f x xs, sum_four f xs few)

four_times : {X : Type 0} (f : X → ℕ) (xs : List X) → sum_by (λ x. 4 * f x) xs ≡ 4 * sum_by f xs
four_times f [] = refl
four_times f (x ∷ xs) = omega (arith, sum_by-cons f x xs, sum_by-cons (λ y. 4 * f y) x xs, four_times f xs)

module _ (p : Parts) where
  abbrev mine : Square → Bool
  mine s = has_colour p.side (at p.board s)

  -- 1 if the pair is tried
  abbrev one : Square → Square → ℕ
  one t s = bit (mine s && is_tried p s t)

  from_origin : (s : Square) → cond (mine s) (length (tries_from p s)) 0 ≤ 4 * sum_by (λ t. one t s) squares
  unfolding tries_from
  from_origin s = grind (arith, common_steps, length, bit, length-flat_map, sum_four, four_to, length_by_bits)

  -- a pair that is tried is in view, or a jump apart
  one_most : (t s : Square) → one t s ≤ bit (is_in_view p.board t s) + bit (is_jump s t)
  one_most t s =
      subst (λ (n : ℕ). n ≤ bit (is_in_view p.board t s) + bit (is_jump s t)) (sym there)
      (by_tests (mine s) (own p Knight s) (is_jump s t) (is_aligned s t) (is_some (at p.board s)) (is_clear p.board s t)
      (not (has_colour p.side (at p.board t))) (piece_there (at p.board s)))
    where
      there : one t s ≡ bit (mine s && ((if own p Knight s then is_jump s t else (is_aligned s t && is_clear p.board s t))
          && not (has_colour p.side (at p.board t))))
      there = ap₂ (λ j w. bit (mine s && ((if own p Knight s then j else w) && not (has_colour p.side (at p.board t)))))
          (jump_back t s) (seen_back p s t)

      piece_there : (cell : Option Piece) → has_colour p.side cell ≡ true → is_some cell ≡ true
      piece_there cell h = grind arith

      by_tests : (v n j a o w f : Bool) → (v ≡ true → o ≡ true)
          → bit (v && ((if n then j else (a && w)) && f)) ≤ bit (a && (o && w)) + bit j
      by_tests v n j a o w f h = grind arith

  to_target : (t : Square) → OnBoard t → sum_by (λ s. one t s) squares ≤ 16
  to_target t on =
      omega (
        arith,
        sum_by-le-sum_by (λ s. one t s) (λ s. bit (is_in_view p.board t s) + bit (is_jump s t)) squares (one_most t),
        sum_both (λ s. bit (is_in_view p.board t s)) (λ s. bit (is_jump s t)) squares,
        length_by_bits (is_in_view p.board t) squares,
        length_by_bits (λ s. is_jump s t) squares,
        few_in_view p.board t on.file,
        few_jumps t on.file on.rank,
      )

  pairs_most : sum_by (λ t. sum_by (λ s. one t s) squares) squares ≤ 1024
  pairs_most =
      omega (
        arith,
        squares_long,
        sum_by-le (λ t. sum_by (λ s. one t s) squares) 16 squares (λ i d low.
            let inside : i < 64 = omega (arith, low, squares_long) in
            subst (λ t. sum_by (λ s. one t s) squares ≤ 16) (sym (square_in_place i d inside))
            (to_target (square_at i) (record { file = omega arith; rank = omega arith }))),
      )

  pub tries_few : length (flat_map (tries_from p) (own_squares p)) ≤ 4096
  tries_few =
      omega (
        arith,
        length-flat_map (tries_from p) (own_squares p),
        sum_kept (λ s. length (tries_from p s)) mine squares,
        sum_by-le-sum_by (λ s. cond (mine s) (length (tries_from p s)) 0) (λ s. 4 * sum_by (λ t. one t s) squares) squares from_origin,
        four_times (λ s. sum_by (λ t. one t s) squares) squares,
        sum_swap (λ s t. one t s) squares squares,
        pairs_most,
      )
