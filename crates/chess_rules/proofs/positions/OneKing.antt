-- Where the one king of a colour stands.
use Rattle.chess_rules.proofs.Words.{Colour, King, Square, Board, at, kings, other, has_piece, is_attacked, king_attacked, king_square, ◌≡◌, ℕ, zero, suc, ◌+◌, ◌<◌, ◌≤◌, Bool, true, ◌&&◌, refl, subst, arith, List, [], ◌∷◌, length, get_or, cond, Some, unwrap_or, position, count_by, position_or_len, position-Some, is_count_by, and_from, common_steps}
use Rattle.chess_rules.proofs.sets.AllSquares.{first_true, second_true, same_tests, Passes, some_square, any_square, cell_of-square_at, square_at-cell_of}

-- How many elements pass, an element at a time.

abbrev pub tally : {X : Type 0} → (X → Bool) → List X → ℕ
tally p [] = 0
tally p (x ∷ xs) = cond (p x) (1 + tally p xs) (tally p xs)

pub tally-count_by : {X : Type 0} (p : X → Bool) (xs : List X) → tally p xs ≡ count_by p xs
tally-count_by p xs = is_count_by (tally p) p refl (λ _ _. refl) xs

at_least_one : {X : Type 0} (p : X → Bool) (xs : List X) (i : ℕ) (d : X) → i < length xs → p (get_or xs i d) ≡ true → 1 ≤ tally p xs
at_least_one p [] i d low h = absurd (omega arith)
at_least_one p (x ∷ xs) zero d low h = rw h (omega arith)
at_least_one p (x ∷ xs) (suc i) d low h = grind (arith, common_steps, (at_least_one p xs i d (omega arith) h))

two : (n : ℕ) (v : Bool) → v ≡ true → 1 ≤ n → cond v (1 + n) n ≤ 1 → ⊥
two n v e more few = grind arith

fewer : (n : ℕ) (v : Bool) → cond v (1 + n) n ≤ 1 → n ≤ 1
fewer n v few = grind arith

module _ {X : Type 0} (p : X → Bool) where
  tally_place : (xs : List X) (i j : ℕ) (d : X) → tally p xs ≤ 1 → i < length xs → j < length xs → p (get_or xs i d) ≡ true
      → p (get_or xs j d) ≡ true → i ≡ j
  tally_place [] i j d one low high h g = absurd (omega arith)
  tally_place (x ∷ xs) zero zero d one low high h g = refl
  tally_place (x ∷ xs) zero (suc j) d one low high h g = absurd (two (tally p xs) (p x) h (at_least_one p xs j d (omega arith) g) one)
  tally_place (x ∷ xs) (suc i) zero d one low high h g = absurd (two (tally p xs) (p x) g (at_least_one p xs i d (omega arith) h) one)
  tally_place (x ∷ xs) (suc i) (suc j) d one low high h g = grind (arith, common_steps, (tally_place xs i j d (fewer (tally p xs) (p x) one) (omega arith) (omega arith) h g))

  -- two elements that pass, where one does, stand at one place
  one_place : (xs : List X) (i j : ℕ) (d : X) → count_by p xs ≤ 1 → i < length xs → j < length xs → p (get_or xs i d) ≡ true
      → p (get_or xs j d) ≡ true → i ≡ j
  one_place xs i j d one low high h g = tally_place xs i j d (omega (arith, tally-count_by p xs)) low high h g

  tally_some : (xs : List X) → 1 ≤ tally p xs → position_or_len p xs < length xs
  tally_some [] h = absurd (omega arith)
  tally_some (x ∷ xs) h = grind (arith, common_steps, length, (tally_some xs))

  some_place : (xs : List X) → 1 ≤ count_by p xs → position_or_len p xs < length xs
  some_place xs h = tally_some xs (omega (arith, tally-count_by p xs))

  -- the first place, where there is one
  pub place_found : (xs : List X) → 1 ≤ count_by p xs → position p xs ≡ Some (position_or_len p xs)
  place_found xs h = grind (arith, some_place)

-- The king's square.

pub record StandsAt (c : Colour) (b : Board) (k : Square) : Type 0 where
  pub file : k.file < 8
  pub rank : k.rank < 8
  pub king : has_piece c King (at b k) ≡ true

-- the one king stands where it is said to
pub king_stands : (c : Colour) (b : Board) → length b ≡ 64 → kings c b ≡ 1 → StandsAt c b (king_square c b)
king_stands c b long one =
    grind (arith, common_steps, position, place_found, unwrap_or, position-Some, cell_of-square_at)

-- a king of the colour stands nowhere else
pub king_only_there : (c : Colour) (b : Board) (k l : Square) → length b ≡ 64
    → kings c b ≡ 1 → StandsAt c b k → StandsAt c b l → k ≡ l
king_only_there c b k l long one h g = grind (arith, common_steps, square_at-cell_of, one_place)

-- whether the king is attacked is seen from its square
pub king_attacked_there : (c : Colour) (b : Board) → length b ≡ 64 → kings c b ≡ 1
    → king_attacked b c ≡ is_attacked b (other c) (king_square c b)
king_attacked_there c b long one = same_tests _ _ there from_there
  where
    there : king_attacked b c ≡ true → is_attacked b (other c) (king_square c b) ≡ true
    there h = by_king (some_square (λ k. has_piece c King (at b k) && is_attacked b (other c) k) h)
      where
        by_king : Passes (λ k. has_piece c King (at b k) && is_attacked b (other c) k) → is_attacked b (other c) (king_square c b) ≡ true
        by_king w =
            let here : StandsAt c b w.on = record { file = w.file; rank = w.rank; king = first_true (has_piece c King (at b w.on)) _ w.holds } in
            subst (λ (k : Square). is_attacked b (other c) k ≡ true)
            (king_only_there c b w.on (king_square c b) long one here (king_stands c b long one))
            (second_true (has_piece c King (at b w.on)) _ w.holds)

    from_there : is_attacked b (other c) (king_square c b) ≡ true → king_attacked b c ≡ true
    from_there h =
        let place : StandsAt c b (king_square c b) = king_stands c b long one in
        any_square (λ k. has_piece c King (at b k) && is_attacked b (other c) k) (king_square c b) place.file place.rank (and_from _ _ place.king h)
