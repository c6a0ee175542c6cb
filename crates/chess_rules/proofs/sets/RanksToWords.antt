-- The words of a board, made of the lanes of its ranks.
use Rattle.std.proofs.Math.Pow.{pow_mono}
use Rattle.std.proofs.Math.Seq.{drop-cons}
use Rattle.chess_rules.proofs.Words.{AreWords, Black, Board, Piece, cells, cell_in, coded, diagonal_of, has, has_colour, is_near, straight_of, word, ◌≡◌, ℕ, suc, ◌+◌, ◌*◌, ◌/◌, ◌%◌, ◌^◌, ◌<◌, ◌≤◌, Bool, List, [], ◌∷◌, ◌++◌, get_or, take, length, pow-suc, refl, sym, ◌∙◌, ap, ap₂, append_assoc, arith, length-append, subst, Option, None, if◌then◌else◌, at, lines, square, Some, map, is_some, ◌==◌, bit_at_lowest, bit_at-suc, get_or-map-range_with_len, drop, replicate, drop-drop, length-drop, length-replicate, length-take-le, replicate-append-replicate, take-append-drop, take_at, lanes_of, words, bytes_of_bits, bytes_of_runs, number_of_piece, numbers, word_of_bytes, common_steps, Inside}
unfoldable use Rattle.chess_rules.specs.Words.{lanes}
use Rattle.chess_rules.proofs.sets.WordsToCells.{has_word, long_there, same_cells, word_fits}

-- The lanes of a rank.

pub lanes_nil : lanes [] ≡ 0
unfolding lanes word
lanes_nil = refl

-- one content more, to the left of the others
lanes-cons : (x : Option Piece) (b : Board) → lanes (x ∷ b) ≡ lanes_of x + 2 * lanes b
unfolding lanes word
lanes-cons x b = omega arith

-- the content before those that are read
pub next_lanes : (b : Board) (i n read : ℕ) → i < length b → read ≡ lanes (take n (drop (suc i) b))
    → lanes_of (get_or b i None) + 2 * read ≡ lanes (take (suc n) (drop i b))
next_lanes b i n read low h = grind (arith, common_steps, take, drop-cons, lanes-cons)

-- eight cells or fewer have eight bits or fewer
lane_fits : {X : Type 0} (test : X → Bool) (xs : List X) → length xs ≤ 8 → word test xs < 256
lane_fits test xs short = let most : 2 ^ length xs ≤ 2 ^ 8 = pow_mono short in omega (arith, word_fits test xs)

pub lanes_fit : (b : Board) → length b ≤ 8 → lanes b < 2 ^ 32
unfolding lanes
lanes_fit b short =
    omega (arith, lane_fits straight_of b short, lane_fits diagonal_of b short, lane_fits is_near b short, lane_fits (has_colour Black) b short)

-- each set of a rank, taken out of its lanes
pub record Lanes (n : ℕ) (b : Board) : Type 0 where
  pub straight : n % 256 ≡ word straight_of b
  pub diagonal : n / 256 % 256 ≡ word diagonal_of b
  pub near : n / 65536 % 256 ≡ word is_near b
  pub black : n / 16777216 ≡ word (has_colour Black) b

pub lanes_apart : (n : ℕ) (b : Board) → length b ≤ 8 → n ≡ lanes b → Lanes n b
unfolding lanes
lanes_apart n b short h =
    let s = lane_fits straight_of b short in
    let d = lane_fits diagonal_of b short in
    let e = lane_fits is_near b short in
    let c = lane_fits (has_colour Black) b short in
    record { straight = omega (arith, s, d, e, c, h); diagonal = omega (arith, s, d, e, c, h); near = omega (arith, s, d, e, c, h); black = omega (arith, s, d, e, c, h) }

-- The words of the ranks.

pub word-append : {X : Type 0} (test : X → Bool) (xs ys : List X) → word test (xs ++ ys) ≡ word test xs + 2 ^ length xs * word test ys
unfolding word
word-append test [] ys = omega arith
word-append test (x ∷ xs) ys =
    longer (if test x then 1 else 0) (word test xs) (word test (xs ++ ys)) (word test ys) (2 ^ length xs) (2 ^ suc (length xs))
    (word-append test xs ys) (pow-suc 2 (length xs))
  where
    longer : (first a whole b p q : ℕ) → whole ≡ a + p * b → q ≡ p * 2 → first + 2 * whole ≡ first + 2 * a + q * b
    longer first a whole b p q h power = grind arith

-- The cells of the words of a board.

cell_of_words : (b : Board) (i : ℕ) → i < length b → cell_in (words b) i ≡ get_or b i None
cell_of_words b i low =
    ap₂ (λ (s d : Bool). coded s d (has (words b).near i) (has (words b).black i)) (has_word straight_of b i None low) (has_word diagonal_of b i None low)
    ∙ ap₂ (λ (n c : Bool). coded (straight_of (get_or b i None)) (diagonal_of (get_or b i None)) n c) (has_word is_near b i None low) (has_word (has_colour Black) b i None low)
    ∙ coded_again (get_or b i None)
  where
    coded_again : (x : Option Piece) → coded (straight_of x) (diagonal_of x) (is_near x) (has_colour Black x) ≡ x
    coded_again x = grind arith

pub cells_again : (b : Board) → length b ≡ 64 → cells (words b) ≡ b
cells_again b long = same_cells (words b) b long (λ i low. cell_of_words b i (omega arith))

-- A rank that is put below the others.

module _ (old new : Inside) (lanes_read : ℕ) (row : Board) (eight : length row ≡ 8) (there : lanes_read ≡ lanes row) (are_words : AreWords old)
    (straight : new.straight ≡ lanes_read % 256 + 256 * (old.straight % 2 ^ 56))
    (diagonal : new.diagonal ≡ lanes_read / 256 % 256 + 256 * (old.diagonal % 2 ^ 56))
    (near : new.near ≡ lanes_read / 65536 % 256 + 256 * (old.near % 2 ^ 56))
    (black : new.black ≡ lanes_read / 16777216 + 256 * (old.black % 2 ^ 56)) where
  abbrev pub pushed : Board
  pushed = row ++ take 56 (cells old)

  long : length pushed ≡ 64
  long = omega (arith, length-append row (take 56 (cells old)), eight, length-take-le 56 (cells old) (omega (arith, long_there old (cells old) refl)))

  sets : Lanes lanes_read row
  sets = lanes_apart lanes_read row (omega (arith, eight)) there

  with_rank : (test : Option Piece → Bool) (read lane word_new : ℕ) → word test (cells old) ≡ read → lane ≡ word test row
      → word_new ≡ lane + 256 * (read % 2 ^ 56) → word test pushed ≡ word_new
  with_rank test read lane word_new before here after =
      let fifty_six : length (take 56 (cells old)) ≡ 56 = length-take-le 56 (cells old) (omega (arith, long_there old (cells old) refl)) in
      let whole : read ≡ word test (take 56 (cells old)) + 2 ^ 56 * word test (drop 56 (cells old)) =
      sym before ∙ ap (word test) (sym (take-append-drop 56 (cells old))) ∙ word-append test (take 56 (cells old)) (drop 56 (cells old))
      ∙ ap (λ k. word test (take 56 (cells old)) + 2 ^ k * word test (drop 56 (cells old))) fifty_six in
      let low : word test (take 56 (cells old)) < 2 ^ 56 = omega (arith, word_fits test (take 56 (cells old)), ap (λ k. 2 ^ k) fifty_six) in
      let rest : read % 2 ^ 56 ≡ word test (take 56 (cells old)) = omega (arith, whole, low) in
      word-append test row (take 56 (cells old)) ∙ ap (λ k. word test row + 2 ^ k * word test (take 56 (cells old))) eight
      ∙ omega (arith, rest, here, after)

  words_pushed : words pushed ≡ new
  words_pushed = grind (arith, common_steps, straight, diagonal, near, black, with_rank, sets)

  pub are_words_pushed : AreWords new
  are_words_pushed = subst AreWords words_pushed (ap words (cells_again pushed long))

  pub cells_pushed : (before : Board) → cells old ≡ before → cells new ≡ row ++ take 56 before
  cells_pushed before is = ap cells (sym words_pushed) ∙ cells_again pushed long ∙ ap (λ b. row ++ take 56 b) is

-- Every rank goes up by one, where the lowest rank is empty.
pub ranks_above : (b : Board) (k : ℕ) → length b + k ≡ 56 → take 56 (b ++ replicate (k + 8) None) ≡ b ++ replicate k None
ranks_above b k long = ap (take 56) split ∙ take_at (b ++ replicate k None) (replicate 8 None) 56 size
  where
    split : b ++ replicate (k + 8) None ≡ (b ++ replicate k None) ++ replicate 8 None
    split = ap (λ c. b ++ c) (sym (replicate-append-replicate k 8 None)) ∙ sym (append_assoc b (replicate k None) (replicate 8 None))

    size : length (b ++ replicate {A = Option Piece} k None) ≡ 56
    size = omega (arith, length-append b (replicate {A = Option Piece} k None), length-replicate {A = Option Piece} k None)

-- the board of which the ranks above are read, and one rank more
pub next_rank : (b : Board) (k : ℕ) → length b ≡ 64 → k + 8 ≤ 64
    → take 8 (drop k b) ++ take 56 (drop (k + 8) b ++ replicate (k + 8) None) ≡ drop k b ++ replicate k None
next_rank b k long low =
    ap (λ c. take 8 (drop k b) ++ c) (ranks_above (drop (k + 8) b) k (omega (arith, length-drop (k + 8) b)))
    ∙ sym (append_assoc (take 8 (drop k b)) (drop (k + 8) b) (replicate k None))
    ∙ ap (λ c. c ++ replicate k None) (ap (λ c. take 8 (drop k b) ++ c) (sym (drop-drop 8 k b)) ∙ take-append-drop 8 (drop k b))

-- The numbers of a rank, made of the bits of the sets.

-- the bits of a word are those of the cells
pub record Marks (test : Option Piece → Bool) (bits : ℕ) (xs : Board) : Type 0 where
  pub of : (i : ℕ) → i < length xs → has bits i ≡ test (get_or xs i None)

first_bit : (bits : ℕ) (b : Bool) → has bits 0 ≡ b → bits % 2 ≡ (if b then 1 else 0)
unfolding has
first_bit bits b h = grind (arith, bit_at_lowest)

next_bit : (bits i : ℕ) → has (bits / 2) i ≡ has bits (suc i)
unfolding has
next_bit bits i = ap (λ n. n == 1) (sym (bit_at-suc bits i))

module _ (test : Option Piece → Bool) (bits : ℕ) (x : Option Piece) (xs : Board) where
  first : Marks test bits (x ∷ xs) → bits % 2 ≡ (if test x then 1 else 0)
  first m = first_bit bits (test x) (m.of 0 (omega arith))

  rest : Marks test bits (x ∷ xs) → Marks test (bits / 2) xs
  rest m = record { of = λ i low. next_bit bits i ∙ m.of (suc i) (omega arith) }

-- the bits of a piece, weighed
weights : (x : Piece) → (if straight_of (Some x) then 1 else 0) + 2 * (if diagonal_of (Some x) then 1 else 0)
    + 4 * (if is_near (Some x) then 1 else 0) + 8 * (if has_colour Black (Some x) then 1 else 0)
    ≡ number_of_piece x
weights x = grind arith

-- one byte more, below the others
sum : (v w : ℕ) (s d e c r : ℕ) (p q t u z : ℕ) → s + 2 * d + 4 * e + 8 * c + r ≡ w → p + 2 * q + 4 * t + 8 * u + z ≡ v
    → (p + 256 * s) + 2 * (q + 256 * d) + 4 * (t + 256 * e) + 8 * (u + 256 * c) + (z + 256 * r) ≡ v + 256 * w
sum v w s d e c r p q t u z g h = omega arith

first_of_run : (k n bits : ℕ) → bits % 2 ≡ 0 → bytes_of_runs (suc k) n bits ≡ (16 + n) + 256 * bytes_of_runs k (n + 1) (bits / 2)
first_of_run k n bits h = grind (arith, common_steps)

end_of_run : (k n bits : ℕ) → bits % 2 ≡ 1 → bytes_of_runs (suc k) n bits ≡ 0 + 256 * bytes_of_runs k 0 (bits / 2)
end_of_run k n bits h = grind (arith, common_steps)

pub total : (xs : Board) (n s d e c o : ℕ) → Marks straight_of s xs → Marks diagonal_of d xs → Marks is_near e xs
    → Marks (has_colour Black) c xs → Marks is_some o xs
    → bytes_of_bits (length xs) s + 2 * bytes_of_bits (length xs) d + 4 * bytes_of_bits (length xs) e
    + 8 * bytes_of_bits (length xs) c + bytes_of_runs (length xs) n o ≡ word_of_bytes (numbers n xs)
total [] n s d e c o i j k l m = refl
total (None ∷ xs) n s d e c o i j k l m =
    let r = bytes_of_runs (length xs) (n + 1) (o / 2) in
    let p : s % 2 ≡ 0 = first straight_of s None xs i in
    let q : d % 2 ≡ 0 = first diagonal_of d None xs j in
    let t : e % 2 ≡ 0 = first is_near e None xs k in
    let u : c % 2 ≡ 0 = first (has_colour Black) c None xs l in
    let z : bytes_of_runs (suc (length xs)) n o ≡ (16 + n) + 256 * r = first_of_run (length xs) n o (first is_some o None xs m) in
    let so_far = total xs (n + 1) (s / 2) (d / 2) (e / 2) (c / 2) (o / 2) (rest straight_of s None xs i) (rest diagonal_of d None xs j)
    (rest is_near e None xs k) (rest (has_colour Black) c None xs l) (rest is_some o None xs m) in
    ap (λ y. bytes_of_bits (suc (length xs)) s + 2 * bytes_of_bits (suc (length xs)) d + 4 * bytes_of_bits (suc (length xs)) e
    + 8 * bytes_of_bits (suc (length xs)) c + y) z
    ∙ sum (16 + n) _ _ _ _ _ r (s % 2) (d % 2) (e % 2) (c % 2) (16 + n) so_far (omega arith)
total (Some x ∷ xs) n s d e c o i j k l m =
    let r = bytes_of_runs (length xs) 0 (o / 2) in
    let p : s % 2 ≡ (if straight_of (Some x) then 1 else 0) = first straight_of s (Some x) xs i in
    let q : d % 2 ≡ (if diagonal_of (Some x) then 1 else 0) = first diagonal_of d (Some x) xs j in
    let t : e % 2 ≡ (if is_near (Some x) then 1 else 0) = first is_near e (Some x) xs k in
    let u : c % 2 ≡ (if has_colour Black (Some x) then 1 else 0) = first (has_colour Black) c (Some x) xs l in
    let z : bytes_of_runs (suc (length xs)) n o ≡ 0 + 256 * r = end_of_run (length xs) n o (first is_some o (Some x) xs m) in
    let so_far = total xs 0 (s / 2) (d / 2) (e / 2) (c / 2) (o / 2) (rest straight_of s (Some x) xs i) (rest diagonal_of d (Some x) xs j)
    (rest is_near e (Some x) xs k) (rest (has_colour Black) c (Some x) xs l) (rest is_some o (Some x) xs m) in
    ap (λ y. bytes_of_bits (suc (length xs)) s + 2 * bytes_of_bits (suc (length xs)) d + 4 * bytes_of_bits (suc (length xs)) e
    + 8 * bytes_of_bits (suc (length xs)) c + y) z
    ∙ sum (number_of_piece x) _ _ _ _ _ r (s % 2) (d % 2) (e % 2) (c % 2) 0 so_far (omega (arith, p, q, t, u, weights x))

-- The cells of a rank.

abbrev pub cells_of_rank : Board → ℕ → Board
cells_of_rank b rank = map (λ file. at b (square file rank)) lines

cell_on_rank : (b : Board) (rank i : ℕ) → i < 8 → get_or (cells_of_rank b rank) i None ≡ get_or b (8 * rank + i) None
cell_on_rank b rank i low = get_or-map-range_with_len (λ file. at b (square file rank)) 0 8 i i None low (omega arith)

-- the bits of a set on a rank
pub on_rank : (test : Option Piece → Bool) (set bits : ℕ) (b : Board) (rank : ℕ) → rank < 8
    → ((i : ℕ) → i < 8 → has bits i ≡ has set (8 * rank + i)) → ((i : ℕ) → i < 64 → has set i ≡ test (get_or b i None))
    → Marks test bits (cells_of_rank b rank)
on_rank test set bits b rank inside h g = grind (arith, common_steps, cell_on_rank)
