-- The tables of squares hold what is said of each square.
use Rattle.chess_rules.proofs.sets.WordsToCells.{has_word}
use Rattle.chess_rules.proofs.Words.{Square, has, word, Places, square_at, ◌≡◌, ℕ, zero, suc, ◌+◌, ◌<◌, ◌*◌, ◌/◌, ◌%◌, Bool, List, [], ◌∷◌, ◌∙◌, ap, ap₂, arith, get_or, map, range_with_len, get_or-range_with_len, length-range_with_len}

-- What the tables hold.

-- the word of the squares that pass
unfoldable pub mask : (Square → Bool) → ℕ
mask test = word (λ i. test (square_at i)) (range_with_len 0 64)

-- for each square: those that lie to it as the test says
unfoldable pub mask_to : (Square → Square → Bool) → ℕ → ℕ
mask_to lies n = mask (λ s. lies s (square_at n))

-- n numbers from k on
abbrev pub numbers : ℕ → ℕ → List ℕ
numbers zero k = []
numbers (suc n) k = k ∷ numbers n (k + 1)

-- a table of a function over them holds its values
at_number : (f : ℕ → ℕ) (n k i d : ℕ) → i < n → get_or (map f (numbers n k)) i d ≡ f (k + i)
at_number f zero k i d less = absurd (omega arith)
at_number f (suc n) k zero d less = (let same : k ≡ k + 0 = omega arith in ap f same)
at_number f (suc n) k (suc i) d less =
    let same : k + 1 + i ≡ k + suc i = omega arith in
    at_number f n (k + 1) i d (omega arith) ∙ ap f same

pub table_at : (f : ℕ → ℕ) (table : List ℕ) (n i : ℕ) → table ≡ map f (numbers n 0) → i < n → get_or table i 0 ≡ f i
table_at f table n i are less = grind (arith, get_or, at_number)

-- A set of squares in a table.

mask_has : (test : Square → Bool) (i : ℕ) → i < 64 → has (mask test) i ≡ test (square_at i)
unfolding mask
mask_has test i low =
    has_word (λ k. test (square_at k)) (range_with_len 0 64) i 0 (omega (arith, length-range_with_len 0 64))
    ∙ ap (λ k. test (square_at k)) (get_or-range_with_len 0 64 i 0 low ∙ omega arith)

pub places : (test : Square → Bool) (n : ℕ) → n ≡ mask test → Places n test
places test n is = record { of = λ i low. ap (λ m. has m i) is ∙ mask_has test i low }

-- a table of the squares that lie to each square so
pub table_places : (lies : Square → Square → Bool) (table : List ℕ) (t : Square) (i n : ℕ)
    → table ≡ map (mask_to lies) (numbers 64 0) → n ≡ get_or table i 0 → i < 64 → square_at i ≡ t → Places n (λ s. lies s t)
unfolding mask_to
table_places lies table t i n are is low again =
    places (λ s. lies s t) n (is ∙ (table_at (mask_to lies) table 64 i are low ∙ ap (λ u. mask (λ s. lies s u)) again))

-- a table of the squares that lie to each square so, for each number
pub table_of_pairs : (lies : ℕ → Square → Square → Bool) (table : List ℕ) (long : ℕ) (t : Square) (k i n : ℕ)
    → table ≡ map (λ j. mask_to (lies (j / 64)) (j % 64)) (numbers long 0) → n ≡ get_or table (64 * k + i) 0
    → 64 * k + i < long → i < 64 → square_at i ≡ t → Places n (λ s. lies k s t)
unfolding mask_to
table_of_pairs lies table long t k i n are is inside low again =
    let first : (64 * k + i) / 64 ≡ k = omega arith in
    let second : (64 * k + i) % 64 ≡ i = omega arith in
    places (λ s. lies k s t) n
    (is ∙ (table_at (λ j. mask_to (lies (j / 64)) (j % 64)) table long (64 * k + i) are inside
    ∙ (ap₂ (λ a b. mask (λ s. lies a s (square_at b))) first second ∙ ap (λ u. mask (λ s. lies k s u)) again)))
