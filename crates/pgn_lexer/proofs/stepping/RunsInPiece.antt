-- Runs of bytes of a set that are a symbol, a number, a string or a word.
use Rattle.std.specs.Bool.{then_some}
use Rattle.std.specs.Prelude.{MatchOption}
use Rattle.pgn_lexer.proofs.Words.{◌≡◌, Bool, ℕ, ◌<◌, true, false, List, get_or, refl, sym, ap, ◌∙◌, arith, nat_lt, ltb-true, ltb-false, true≢false, is_digit, continues_symbol, starts_symbol, Set, IsRunIn, IsNumberIn, not, rules}
use Rattle.pgn_lexer.proofs.cutting.TokensAreSound.{start_continues}

not_digit : (b : ℕ) → continues_symbol b ≡ false → is_digit b ≡ false
not_digit b e = grind arith

pub digit_starts : (b : ℕ) → is_digit b ≡ true → starts_symbol b ≡ true
digit_starts b e = grind arith

-- a run has one length
module _ (set : Set) (longest : ℕ) (piece : List ℕ) (n m : ℕ) (first : IsRunIn set longest piece n) (second : IsRunIn set longest piece m) where
  no_longer : n < m → ⊥
  no_longer less = true≢false (sym (second.all n first.some less) ∙ first.ends)

  no_shorter : m < n → ⊥
  no_shorter less = true≢false (sym (first.all m second.some less) ∙ second.ends)

  same_by : (b : Bool) → nat_lt n m ≡ b → (c : Bool) → nat_lt m n ≡ c → n ≡ m
  same_by b e c f = omega (arith, no_longer, ltb-true, no_shorter, ltb-false)

  one_run : n ≡ m
  one_run = same_by _ refl _ refl

-- ---- a number

module _ (piece : List ℕ) (n : ℕ) where
  digit_at : is_digit (get_or piece 0 0) ≡ true → IsRunIn Set.Digit 255 piece n → (i : ℕ) → i < n → is_digit (get_or piece i 0) ≡ true
  digit_at first run i less = search rules

  pub digits_in : IsNumberIn piece n → (i : ℕ) → i < n → is_digit (get_or piece i 0) ≡ true
  digits_in is = digit_at is.first is.run

  -- it is a symbol
  pub symbol_in : IsNumberIn piece n → IsRunIn Set.Symbol 255 piece n
  symbol_in is = search (rules, start_continues, digit_starts)

  -- a symbol of digits alone is one
  pub number_in : ((i : ℕ) → i < n → is_digit (get_or piece i 0) ≡ true) → IsRunIn Set.Symbol 255 piece n → IsNumberIn piece n
  number_in digits run = search (rules, not_digit)

  no_number : IsRunIn Set.Digit 255 piece n → continues_symbol (get_or piece n 0) ≡ true → (m : ℕ) → IsNumberIn piece m → ⊥
  no_number run goes m is =
      true≢false (sym goes ∙ ap (λ i. continues_symbol (get_or piece i 0)) (one_run Set.Digit 255 piece n m run is.run) ∙ is.ends)

  pub number_found : is_digit (get_or piece 0 0) ≡ true → IsRunIn Set.Digit 255 piece n → (b : Bool) → continues_symbol (get_or piece n 0) ≡ b
      → MatchOption (then_some (not b) n) ((m : ℕ) → IsNumberIn piece m → ⊥) (λ m. IsNumberIn piece m)
  number_found first run b h1 = search (rules, no_number)
