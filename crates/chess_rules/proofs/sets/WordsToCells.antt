-- Words as sets of places, and what the four words of a board say of its cells.
use Rattle.chess_rules.proofs.Words.{Colour, White, Black, Kind, King, Queen, Rook, Bishop, Knight, Pawn, Piece, AreWords, cell_in, cells, has, Places, Sets, coded, straight_of, diagonal_of, word, has_kind, is_near, square_at, at, has_colour, has_piece, ◌≡◌, ℕ, zero, suc, ◌+◌, ◌-◌, ◌*◌, ◌^◌, ◌<◌, ◌≢◌, min, max, Bool, true, false, not, ◌&&◌, ◌||◌, ◌⊎◌, List, [], ◌∷◌, get_or, set, length, length-set, pow-suc, refl, subst, sym, ◌∙◌, ap, ap₂, w64, arith, Option, None, ◌==◌, is_some, nat_lt, if◌then◌else◌, bit_at, bit_not, get_or-set_at, get_or-map-range_with_len, length-map-range_with_len, ext_get_or, get_or-set_other, and_le_r, or_lt, bit_at_and, bit_at_or, bit_at_not, bit_at-suc, bit_at-lt, same_from_bits_below, bit_at-pow_same, bit_at-pow_other, bit_at_ones, bit_at_ones_above, common_steps, bit_and, bit_or, Inside}
use Rattle.chess_rules.proofs.sets.AllSquares.{cell_of-square_at}

-- One bit.

both_bits : (x y : ℕ) → x < 2 → y < 2 → (min x y == 1) ≡ ((x == 1) && (y == 1))
both_bits x y a b = grind arith

either_bit : (x y : ℕ) → x < 2 → y < 2 → (max x y == 1) ≡ ((x == 1) || (y == 1))
either_bit x y a b = grind arith

other_bit : (x : ℕ) → x < 2 → (1 - x == 1) ≡ not (x == 1)
other_bit x a = grind arith

pub has_and : (a b i : ℕ) → has (bit_and a b) i ≡ (has a i && has b i)
unfolding has
has_and a b i = ap (λ n. n == 1) (bit_at_and a b i) ∙ both_bits (bit_at a i) (bit_at b i) (bit_at-lt a i) (bit_at-lt b i)

pub has_or : (a b i : ℕ) → has (bit_or a b) i ≡ (has a i || has b i)
unfolding has
has_or a b i = ap (λ n. n == 1) (bit_at_or a b i) ∙ either_bit (bit_at a i) (bit_at b i) (bit_at-lt a i) (bit_at-lt b i)

pub has_not : (a i : ℕ) → a < 2 ^ 64 → i < 64 → has (bit_not w64 a) i ≡ not (has a i)
unfolding has
has_not a i fits low = ap (λ n. n == 1) (bit_at_not w64 a i fits low) ∙ other_bit (bit_at a i) (bit_at-lt a i)

pub has_zero : (i : ℕ) → has 0 i ≡ false
unfolding has
has_zero i = grind arith

pub same_or_apart : (i k : ℕ) → ((i ≡ k) × ((i == k) ≡ true)) ⊎ ((i ≢ k) × ((i == k) ≡ false))
same_or_apart i k = grind arith

pub has_single : (k i : ℕ) → has (2 ^ k) i ≡ (i == k)
unfolding has
has_single k i = grind (arith, same_or_apart, bit_at-pow_same, bit_at-pow_other)

-- the places before one
pub has_below : (k i : ℕ) → has (2 ^ k - 1) i ≡ nat_lt i k
unfolding has
has_below k i = grind (arith, bit_at_ones, bit_at_ones_above)

pub set_bit : (x e : Bool) → (x || e) ≡ (if e then true else x)
set_bit x e = grind arith

pub cleared_bit : (x e : Bool) → (x && not e) ≡ (if e then false else x)
cleared_bit x e = grind arith

-- What the code does to one word.

and_fits : (a b : ℕ) → b < 2 ^ 64 → bit_and a b < 2 ^ 64
and_fits a b g = omega (arith, and_le_r a b)

pub sets_place : (old bit k : ℕ) (value : Bool) → k < 64 → old < 2 ^ 64 → bit < 2 ^ 64
    → bit ≡ 2 ^ k → value ≡ true → Sets old (bit_or old bit) k value
sets_place old bit k value inside fits small is e =
    record {
      inside = inside;
      fits = or_lt 64 old bit fits small;
      of = λ i low.
          has_or old bit i
          ∙ (ap (λ n. has old i || has n i) is
          ∙ (ap (λ x. has old i || x) (has_single k i)
          ∙ (set_bit (has old i) (i == k) ∙ ap (λ v. if i == k then v else has old i) (sym e))));
    }

pub clears_place : (old bit k : ℕ) (value : Bool) → k < 64 → bit < 2 ^ 64
    → bit ≡ 2 ^ k → value ≡ false → Sets old (bit_and old (bit_not w64 bit)) k value
clears_place old bit k value inside small is e = grind (arith, and_fits, w64, has_and, has_not, has_single, cleared_bit)

-- What the bits say of a cell.

-- a piece of the kind is there, by the three bits
abbrev pub kind_in : Kind → Bool → Bool → Bool → Bool
kind_in King straight diagonal near = near && diagonal
kind_in Queen straight diagonal near = straight && diagonal
kind_in Rook straight diagonal near = (straight && not diagonal) && not near
kind_in Bishop straight diagonal near = (diagonal && not straight) && not near
kind_in Knight straight diagonal near = near && straight
kind_in Pawn straight diagonal near = (near && not straight) && not diagonal

pub is_occupied : (a b c d : Bool) → ((a || b) || c) ≡ is_some (coded a b c d)
is_occupied a b c d = grind arith

kind_there : (k : Kind) (cell : Option Piece) → kind_in k (straight_of cell) (diagonal_of cell) (is_near cell) ≡ has_kind k cell
kind_there k cell = grind arith

pub white_is : (cell : Option Piece) → (is_some cell && not (has_colour Black cell)) ≡ has_colour White cell
white_is cell = grind arith

pub piece_is : (c : Colour) (k : Kind) (cell : Option Piece) → (has_kind k cell && has_colour c cell) ≡ has_piece c k cell
piece_is c k cell = grind arith

-- The bits of a word of a list.

pub has_word : {X : Type 0} (test : X → Bool) (xs : List X) (i : ℕ) (d : X) → i < length xs → has (word test xs) i ≡ test (get_or xs i d)
unfolding has word
has_word test [] i d low = absurd (omega arith)
has_word test (x ∷ xs) zero d low = grind (arith, common_steps)
has_word test (x ∷ xs) (suc i) d low = next (test x) (word test xs) ∙ has_word test xs i d (omega arith)
  where
    next : (b : Bool) (n : ℕ) → (bit_at ((if b then 1 else 0) + 2 * n) (suc i) == 1) ≡ (bit_at n i == 1)
    next b n = grind (arith, bit_at-suc)

pub word_fits : {X : Type 0} (test : X → Bool) (xs : List X) → word test xs < 2 ^ length xs
unfolding word
word_fits test [] = omega arith
word_fits test (x ∷ xs) = (let rest : word test xs < 2 ^ length xs = word_fits test xs in grind (arith, pow-suc))

pub same_bit : (m n i : ℕ) → has m i ≡ has n i → bit_at m i ≡ bit_at n i
unfolding has
same_bit m n i h = grind (arith, bit_at-lt)

-- What the words of a board say of its squares.

cell_at : (w : Inside) (i : ℕ) → i < 64 → get_or (cells w) i None ≡ cell_in w i
unfolding cells
cell_at w i low = get_or-map-range_with_len (cell_in w) 0 64 i i None low (omega arith)

cells_long : (w : Inside) → length (cells w) ≡ 64
unfolding cells
cells_long w = length-map-range_with_len (cell_in w) 0 64

-- the bits of a cell
pub record BitsOf (w : Inside) (i : ℕ) (cell : Option Piece) : Type 0 where
  pub straight : has w.straight i ≡ straight_of cell
  pub diagonal : has w.diagonal i ≡ diagonal_of cell
  pub near : has w.near i ≡ is_near cell
  pub black : has w.black i ≡ has_colour Black cell

word_at : (w : Inside) (test : Option Piece → Bool) (i : ℕ) → i < 64 → has (word test (cells w)) i ≡ test (cell_in w i)
word_at w test i low = has_word test (cells w) i None (omega (arith, cells_long w)) ∙ ap test (cell_at w i low)

cell_bits : (w : Inside) (i : ℕ) → i < 64 → AreWords w → BitsOf w i (cell_in w i)
cell_bits w i low h = grind (arith, common_steps, has, word_at, straight_of, diagonal_of)

word_again : (test : Option Piece → Bool) (w : Inside) (n : ℕ) → n < 2 ^ 64
    → ((i : ℕ) → i < 64 → has n i ≡ test (cell_in w i)) → word test (cells w) ≡ n
word_again test w n fits same =
    same_from_bits_below 64 (word test (cells w)) n
    (omega (arith, word_fits test (cells w), ap (λ k. 2 ^ k) (cells_long w))) fits
    (λ i low. same_bit (word test (cells w)) n i (word_at w test i low ∙ sym (same i low)))

module _ (w : Inside) where
  words_again : w.straight < 2 ^ 64 → w.diagonal < 2 ^ 64 → w.near < 2 ^ 64 → w.black < 2 ^ 64 → ((i : ℕ) → i < 64 → BitsOf w i (cell_in w i))
      → AreWords w
  words_again s d n b h =
      ap₂ (λ x y. record { straight = x; diagonal = y; near = word is_near (cells w); black = word (has_colour Black) (cells w) })
      (word_again straight_of w w.straight s (λ i low. (h i low).straight))
      (word_again diagonal_of w w.diagonal d (λ i low. (h i low).diagonal))
      ∙ ap₂ (λ x y. record { straight = w.straight; diagonal = w.diagonal; near = x; black = y })
      (word_again is_near w w.near n (λ i low. (h i low).near))
      (word_again (has_colour Black) w w.black b (λ i low. (h i low).black))

  pub cell_there : (b : List (Option Piece)) (i : ℕ) → cells w ≡ b → i < 64 → cell_in w i ≡ get_or b i None
  cell_there b i is low = sym (cell_at w i low) ∙ ap (λ (c : List (Option Piece)). get_or c i None) is

  pub bits_there : (b : List (Option Piece)) (i : ℕ) → cells w ≡ b → i < 64 → AreWords w → BitsOf w i (get_or b i None)
  bits_there b i is low h = subst (BitsOf w i) (cell_there b i is low) (cell_bits w i low h)

  pub square_there : (b : List (Option Piece)) (i : ℕ) → cells w ≡ b → i < 64 → cell_in w i ≡ at b (square_at i)
  square_there b i is low = cell_there b i is low ∙ ap (λ k. get_or b k None) (sym (cell_of-square_at i))

  pub marks : (b : List (Option Piece)) (word : ℕ) (test : Option Piece → Bool) → cells w ≡ b
      → ((i : ℕ) → i < 64 → has word i ≡ test (cell_in w i)) → Places word (λ s. test (at b s))
  marks b word test is h = record { of = λ i low. h i low ∙ ap test (square_there b i is low) }

  pub black_places : (b : List (Option Piece)) → cells w ≡ b → AreWords w → Places w.black (λ s. has_colour Black (at b s))
  black_places b is h = marks b w.black (has_colour Black) is (λ i low. (cell_bits w i low h).black)

  pub kind_places : (b : List (Option Piece)) (k : Kind) (set : ℕ) → cells w ≡ b → AreWords w
      → ((i : ℕ) → i < 64 → has set i ≡ kind_in k (has w.straight i) (has w.diagonal i) (has w.near i)) → Places set (λ s. has_kind k (at b s))
  kind_places b k set is h e = marks b set (has_kind k) is (λ i low. e i low ∙ by_bits i (cell_bits w i low h))
    where
      by_bits : (i : ℕ) → BitsOf w i (cell_in w i) → kind_in k (has w.straight i) (has w.diagonal i) (has w.near i) ≡ has_kind k (cell_in w i)
      by_bits i bits = ap₂ (λ x y. kind_in k x y (has w.near i)) bits.straight bits.diagonal
          ∙ (ap (kind_in k _ _) bits.near ∙ kind_there k (cell_in w i))

  -- two boards with the same squares
  pub same_cells : (b : List (Option Piece)) → length b ≡ 64 → ((i : ℕ) → i < 64 → cell_in w i ≡ get_or b i None) → cells w ≡ b
  same_cells b long h =
      ext_get_or None (cells w) b (cells_long w ∙ sym long)
      (λ i low. let below : i < 64 = omega (arith, cells_long w) in cell_at w i below ∙ h i below)

  pub long_there : (b : List (Option Piece)) → cells w ≡ b → length b ≡ 64
  long_there b is = ap (λ (c : List (Option Piece)). length c) (sym is) ∙ cells_long w

-- a square is set, in each word
module _ (old new : Inside) (k : ℕ) (x : Option Piece) (one two four black : Bool)
    (straight : Sets old.straight new.straight k one) (diagonal : Sets old.diagonal new.diagonal k two)
    (near : Sets old.near new.near k four) (blacks : Sets old.black new.black k black)
    (a : one ≡ straight_of x) (b : two ≡ diagonal_of x) (c : four ≡ is_near x) (d : black ≡ has_colour Black x) where
  bits_put : (i : ℕ) → i < 64 → (v : Bool) → (i == k) ≡ v → cell_in new i ≡ (if v then x else cell_in old i)
  bits_put i low v e = grind arith

  pub cells_put : (before : List (Option Piece)) → cells old ≡ before → cells new ≡ set before k x
  cells_put before is =
      same_cells new (set before k x) (length-set before k x ∙ long_there old before is)
      (λ i low. by_place i low (same_or_apart i k))
    where
      by_place : (i : ℕ) → i < 64 → ((i ≡ k) × ((i == k) ≡ true)) ⊎ ((i ≢ k) × ((i == k) ≡ false))
          → cell_in new i ≡ get_or (set before k x) i None
      by_place i low h = grind (arith, bits_put, get_or-set_at, long_there, cell_there, get_or-set_other)

  pub words_put : AreWords old → AreWords new
  words_put h =
      words_again new straight.fits diagonal.fits near.fits blacks.fits (λ i low.
      let kept : BitsOf old i (cell_in old i) = cell_bits old i low h in
      subst (BitsOf new i) (sym (bits_put i low (i == k) refl))
      (record {
        straight = straight.of i low ∙ placed straight_of (i == k) _ _ _ a kept.straight;
        diagonal = diagonal.of i low ∙ placed diagonal_of (i == k) _ _ _ b kept.diagonal;
        near = near.of i low ∙ placed is_near (i == k) _ _ _ c kept.near;
        black = blacks.of i low ∙ placed (has_colour Black) (i == k) _ _ _ d kept.black;
      }))
    where
      placed : (test : Option Piece → Bool) (v put before : Bool) (cell : Option Piece) → put ≡ test x → before ≡ test cell
          → (if v then put else before) ≡ test (if v then x else cell)
      placed test true put before cell e f = e
      placed test false put before cell e f = f
