-- No move is listed twice: each move has a number, and in the list of all moves the numbers rise.
use Rattle.chess_rules.proofs.Words.{Promotion, Move, Parts, Played, Square, squares, square_at, cell_of, legal, is_legal, every_move, legal_among, legal_moves, moves_between, played, ◌≡◌, ◌≢◌, ℕ, zero, suc, ◌+◌, ◌*◌, ◌<◌, Bool, cond, List, [], ◌∷◌, ◌++◌, map, Option, None, Some, is_some, option_map, refl, sym, ◌∙◌, ap, ap₂, subst, arith, length, get_or, cons_option, filter, filter_map, flat_map, range_with_len, AllPairs, length-range_with_len, get_or-range_with_len, get_or-map, length-map}
use Rattle.std.proofs.lemmas.List.Folds.{flat_map-map}
use Rattle.std.proofs.lemmas.List.Kept.{AllPairs-filter}
use Rattle.chess_rules.specs.declared.piece.Promotion.TheVariants.{Queen, Rook, Bishop, Knight}
use Rattle.chess_rules.proofs.listing.FlatMaps.{each_same, map-flat_map}
use Rattle.chess_rules.proofs.sets.AllSquares.{by_places, cell_of-square_at}

-- Lists of numbers in a row.

range-append : (a m n : ℕ) → range_with_len a m ++ range_with_len (a + m) n ≡ range_with_len a (m + n)
range-append a zero n = ap₂ range_with_len (omega arith) (omega arith)
range-append a (suc m) n =
    ap (λ xs. a ∷ xs) (ap (λ b. range_with_len (a + 1) m ++ range_with_len b n) (omega arith) ∙ range-append (a + 1) m n)
    ∙ ap (range_with_len a) (let e : suc (m + n) ≡ suc m + n = omega arith in e)

-- lists of k numbers in a row, one behind another
ranges_joined : (f : ℕ → List ℕ) (b k : ℕ) → ((i : ℕ) → f i ≡ range_with_len (b + k * i) k)
    → (a n : ℕ) → flat_map f (range_with_len a n) ≡ range_with_len (b + k * a) (k * n)
ranges_joined f b k h a zero = ap (range_with_len (b + k * a)) (let e : 0 ≡ k * 0 = omega arith in e)
ranges_joined f b k h a (suc n) =
    ap₂ (λ xs ys. xs ++ ys) (h a) (ranges_joined f b k h (a + 1) n)
    ∙ (ap (λ c. range_with_len (b + k * a) k ++ range_with_len c (k * n)) (let e : b + k * (a + 1) ≡ b + k * a + k = omega arith in e)
    ∙ (range-append (b + k * a) k (k * n)
    ∙ ap (range_with_len (b + k * a)) (let e : k + k * n ≡ k * suc n = omega arith in e)))

-- what has rising numbers rises
pairs_rise : {X : Type 0} (number : X → ℕ) (xs : List X) (n : ℕ) → map number xs ≡ range_with_len 0 n → AllPairs (λ x y. number x < number y) xs
pairs_rise number xs n is i j d low high =
    omega (arith, numbered i (omega arith), numbered j high)
  where
    long : length xs ≡ n
    long = sym (length-map xs number) ∙ (ap length is ∙ length-range_with_len 0 n)

    numbered : (k : ℕ) → k < length xs → number (get_or xs k d) ≡ 0 + k
    numbered k there =
        sym (get_or-map number xs k d 0 there) ∙ (ap (λ ys. get_or ys k 0) is ∙ get_or-range_with_len 0 n k 0 (omega (arith, long, there)))

-- The numbers of moves.

abbrev promotion_number : Option Promotion → ℕ
promotion_number None = 0
promotion_number (Some Queen) = 1
promotion_number (Some Rook) = 2
promotion_number (Some Bishop) = 3
promotion_number (Some Knight) = 4

-- Let there be n squares.
module _ (n : ℕ) (places : squares ≡ map square_at (range_with_len 0 n)) where
  abbrev number : Move → ℕ
  number m = (5 * n * cell_of m.from + 5 * cell_of m.to) + promotion_number m.promotion

  five : (a : ℕ) → (a + 0) ∷ (a + 1) ∷ (a + 2) ∷ (a + 3) ∷ (a + 4) ∷ [] ≡ range_with_len a 5
  five a = grind arith

  numbered_pair : (s t : Square) → map number (moves_between s t) ≡ range_with_len (5 * n * cell_of s + 5 * cell_of t) 5
  numbered_pair s t = five (5 * n * cell_of s + 5 * cell_of t)

  numbered_from : (s : Square) → map number (flat_map (moves_between s) squares) ≡ range_with_len (5 * n * cell_of s) (5 * n)
  numbered_from s =
      map-flat_map number (moves_between s) squares
      ∙ (each_same (λ t. map number (moves_between s t)) (λ t. range_with_len (5 * n * cell_of s + 5 * cell_of t) 5) squares (numbered_pair s)
      ∙ (ap (flat_map (λ t. range_with_len (5 * n * cell_of s + 5 * cell_of t) 5)) places
      ∙ (flat_map-map (λ t. range_with_len (5 * n * cell_of s + 5 * cell_of t) 5) square_at (range_with_len 0 n)
      ∙ (ranges_joined (λ i. range_with_len (5 * n * cell_of s + 5 * cell_of (square_at i)) 5) (5 * n * cell_of s) 5
      (λ i. ap (λ c. range_with_len (5 * n * cell_of s + 5 * c) 5) (cell_of-square_at i)) 0 n
      ∙ ap (λ b. range_with_len b (5 * n)) (let e : 5 * n * cell_of s + 5 * 0 ≡ 5 * n * cell_of s = omega arith in e)))))

  numbered : map number every_move ≡ range_with_len 0 (5 * n * n)
  unfolding every_move
  numbered =
      map-flat_map number (λ s. flat_map (moves_between s) squares) squares
      ∙ (each_same (λ s. map number (flat_map (moves_between s) squares)) (λ s. range_with_len (5 * n * cell_of s) (5 * n)) squares numbered_from
      ∙ (ap (flat_map (λ s. range_with_len (5 * n * cell_of s) (5 * n))) places
      ∙ (flat_map-map (λ s. range_with_len (5 * n * cell_of s) (5 * n)) square_at (range_with_len 0 n)
      ∙ (ranges_joined (λ i. range_with_len (5 * n * cell_of (square_at i)) (5 * n)) 0 (5 * n)
      (λ i. ap (λ c. range_with_len c (5 * n)) (ap (λ c. 5 * n * c) (cell_of-square_at i) ∙ (let e : 5 * n * i ≡ 0 + 5 * n * i = omega arith in e))) 0 n
      ∙ ap (λ b. range_with_len b (5 * n * n)) (let e : 0 + 5 * n * 0 ≡ 0 = omega arith in e)))))

  moves_apart : (test : Move → Bool) → AllPairs ◌≢◌ (filter test every_move)
  moves_apart test i j d low high e =
      absurd (omega (arith, AllPairs-filter (λ x y. number x < number y) test every_move (pairs_rise number every_move (5 * n * n) numbered) i j d low high, ap number e))

-- The moves of the list are the legal ones among all moves.

legal_as_filter : (p : Parts) (ms : List Move) → map (λ x. x.mv) (legal_among p ms) ≡ filter (is_legal p) ms
unfolding legal_among
legal_as_filter p [] = refl
legal_as_filter p (m ∷ ms) = by_answer (legal p m) (legal_as_filter p ms)
  where
    by_answer : (o : Option Parts) → map (λ (x : Played). x.mv) (filter_map (played p) ms) ≡ filter (is_legal p) ms
        → map (λ (x : Played). x.mv) (cons_option (option_map {U = Played} (λ q. record { mv = m; next = q }) o) (filter_map (played p) ms))
        ≡ cond (is_some o) (m ∷ filter (is_legal p) ms) (filter (is_legal p) ms)
    by_answer None rest = rest
    by_answer (Some q) rest = ap (λ xs. m ∷ xs) rest

pub listed_once : (p : Parts) → AllPairs ◌≢◌ (map (λ x. x.mv) (legal_moves p))
listed_once p = subst (AllPairs ◌≢◌) (sym (legal_as_filter p every_move)) (moves_apart 64 by_places (is_legal p))
