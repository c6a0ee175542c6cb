-- Numbers in decimal.
use Rattle.pgn_lexer.proofs.Words.{◌≡◌, ℕ, ◌+◌, ◌/◌, ◌%◌, ◌^◌, ◌<◌, ◌≤◌, Bool, true, List, [], ◌∷◌, ◌++◌, length, refl, arith, length-append, decimal, both_true, list_all, fold-append, is_digit, starts_symbol, continues_symbol, NumbersAreSymbols, IsSymbol, number_of, and_parts}
use Rattle.std.proofs.lemmas.Fmt.{decimal_by_steps, length-decimal-le}
use Rattle.pgn_lexer.proofs.cutting.TokensAreSound.{start_continues}

-- digits that spell a number
pub record IsNumber (n : ℕ) (ds : List ℕ) : Type 0 where
  pub digits : list_all is_digit ds ≡ true
  pub value : number_of ds ≡ n
  pub some : 0 < length ds

all_append : (p : ℕ → Bool) (xs ys : List ℕ) → list_all p xs ≡ true → list_all p ys ≡ true → list_all p (xs ++ ys) ≡ true
all_append p [] ys all more = more
all_append p (x ∷ xs) ys all more = grind (arith, all_append p xs ys)

one_digit : (n : ℕ) → n < 10 → IsNumber n ((48 + n) ∷ [])
one_digit n low = grind arith

last_digit : (n : ℕ) (ds : List ℕ) → 10 ≤ n → IsNumber (n / 10) ds → IsNumber n (ds ++ ((48 + n % 10) ∷ []))
last_digit n ds high front = grind (arith, fold-append, all_append, length-append)

pub number_written : (n : ℕ) → n < 2 ^ 64 → IsNumber n (decimal n)
number_written = decimal_by_steps IsNumber one_digit last_digit

digit_starts : (b : ℕ) → is_digit b ≡ true → starts_symbol b ≡ true
digit_starts b e = grind arith

digits_continue : (ds : List ℕ) → list_all is_digit ds ≡ true → list_all continues_symbol ds ≡ true
digits_continue [] all = refl
digits_continue (d ∷ ds) all =
    let first = and_parts (is_digit d) _ all in
    both_true (start_continues d (digit_starts d first.0)) (digits_continue ds first.1)

symbol_of : (n : ℕ) (ds : List ℕ) → IsNumber n ds → length ds ≤ 255 → IsSymbol ds
symbol_of n ds h1 h2 = grind (arith, digits_continue)

pub numbers_are_symbols : NumbersAreSymbols
numbers_are_symbols n small =
    let h = number_written n small in
    let short =
    length-decimal-le 20 n (omega arith) (omega arith) small in
    (symbol_of n _ h (omega arith), h.digits)
