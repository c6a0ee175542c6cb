-- The tables of bytes hold what is said of each byte.
use Rattle.std.proofs.Common.{bit_and, nat_eq}
use Rattle.pgn_lexer.proofs.Words.{◌≡◌, ℕ, zero, suc, ◌+◌, ◌<◌, Bool, true, false, not, refl, List, [], ◌∷◌, ap, sym, ◌∙◌, arith, get_or, map, Set, bits_of, is_in}

abbrev pub numbers : ℕ → ℕ → List ℕ
numbers zero k = []
numbers (suc n) k = k ∷ numbers n (k + 1)

-- a table of a function over them holds its values
at_number : {A : Type 0} (f : ℕ → A) (n k i : ℕ) (d : A) → i < n → get_or (map f (numbers n k)) i d ≡ f (k + i)
at_number f zero k i d less = absurd (omega arith)
at_number f (suc n) k zero d less = grind arith
at_number f (suc n) k (suc i) d less = grind (arith, at_number f n)

pub table_at : {A : Type 0} (f : ℕ → A) (table : List A) (b : ℕ) (d : A)
    → table ≡ map f (numbers 256 0) → b < 256 → get_or table b d ≡ f b
table_at f table b d are less =
    let same : 0 + b ≡ b = omega arith in ap (λ l. get_or l b d) are ∙ at_number f 256 0 b d less ∙ ap f same

-- two tests that agree on each byte
agree : (f g : ℕ → Bool) → map f (numbers 256 0) ≡ map g (numbers 256 0) → (b : ℕ) → b < 256 → f b ≡ g b
agree f g same b less = sym (table_at f _ b true refl less) ∙ table_at g _ b true same less

-- the bits of all the sets that a byte is in
abbrev pub bit_if : Bool → ℕ → ℕ
bit_if true bit = bit
bit_if false bit = 0

abbrev pub sets_of : ℕ → ℕ
sets_of b =
    bit_if (is_in Set.SymbolStart b) 1 + bit_if (is_in Set.Symbol b) 2 + bit_if (is_in Set.Digit b) 4 + bit_if (is_in Set.Suffix b) 8
    + bit_if (is_in Set.Data b) 16 + bit_if (is_in Set.Word b) 32 + bit_if (is_in Set.Blank b) 64 + bit_if (is_in Set.LineEnd b) 128

abbrev has_bit : Set → ℕ → Bool
has_bit set b = not (nat_eq (bit_and (sets_of b) (bits_of set)) 0)

bit_says : (set : Set) (b : ℕ) → b < 256 → has_bit set b ≡ is_in set b
bit_says Set.SymbolStart = agree (has_bit Set.SymbolStart) (is_in Set.SymbolStart) refl
bit_says Set.Symbol = agree (has_bit Set.Symbol) (is_in Set.Symbol) refl
bit_says Set.Digit = agree (has_bit Set.Digit) (is_in Set.Digit) refl
bit_says Set.Suffix = agree (has_bit Set.Suffix) (is_in Set.Suffix) refl
bit_says Set.Data = agree (has_bit Set.Data) (is_in Set.Data) refl
bit_says Set.Word = agree (has_bit Set.Word) (is_in Set.Word) refl
bit_says Set.Blank = agree (has_bit Set.Blank) (is_in Set.Blank) refl
bit_says Set.LineEnd = agree (has_bit Set.LineEnd) (is_in Set.LineEnd) refl
bit_says Set.Space = agree (has_bit Set.Space) (is_in Set.Space) refl

pub in_set : (set : Set) (b held bits : ℕ) → held ≡ sets_of b → bits ≡ bits_of set → b < 256 → not (nat_eq (bit_and held bits) 0) ≡ is_in set b
in_set set b held bits is same less = rw (is, same) (bit_says set b less)
