-- The lowest and the highest place of a set that is not empty.
use Rattle.chess_rules.proofs.Words.{has, IsHighest, IsLowest, ◌≡◌, ℕ, zero, suc, ◌+◌, ◌-◌, ◌*◌, ◌^◌, ◌<◌, ◌≤◌, pow-suc, w64, ◌∙◌, ap, arith, ◌==◌, bit_at, leading_zeros, trailing_zeros, leading_length, bit_at_above, bit_at-trailing_zeros, HasNone, IsFrom, IsUpTo, true, not, ◌||◌, nat_lt, rules, lt-ltb, common_steps}
use Rattle.chess_rules.proofs.sets.WordsToCells.{has_below, has_zero}

pub lowest_place : (n : ℕ) → 0 < n → n < 2 ^ 64 → IsLowest n (trailing_zeros w64 n)
unfolding has
lowest_place n some fits =
    let facts = bit_at-trailing_zeros w64 n some fits in
    record { inside = facts.0; here = ap (λ d. d == 1) facts.1; none = λ i low. ap (λ d. d == 1) (facts.2 i low) }

-- the digit that makes a number as long as it is
top_digit : (n j : ℕ) → 2 ^ j ≤ n → n < 2 * 2 ^ j → bit_at n j ≡ 1
top_digit n j low high = grind arith

pub highest_place : (n : ℕ) → 0 < n → n < 2 ^ 64 → IsHighest n (63 - leading_zeros w64 n)
unfolding has
highest_place n some fits = by_length (leading_length 64 n fits)
  where
    by_length : ((m : ℕ) × (leading_zeros w64 n + m ≡ 64) × (n < 2 ^ m) × (2 ^ m ≤ 2 * n + 1)) → IsHighest n (63 - leading_zeros w64 n)
    by_length (zero, all, high, low) = absurd (omega arith)
    by_length (suc j, all, high, low) = grind (arith, common_steps, top_digit, pow-suc, bit_at_above)

-- The places up to the first of a set, and those from the last on.

all_there : (i : ℕ) → i < 64 → has (2 ^ 64 - 1) i ≡ true
all_there i low = has_below 64 i ∙ lt-ltb i 64 low

pub up_to_all : (w : ℕ) → HasNone w → IsUpTo w (2 ^ 64 - 1)
up_to_all w none = record { none = λ i low _ j before. none.of j (omega arith); here = λ i low _. all_there i low }

pub from_all : (w : ℕ) → w ≡ 0 → IsFrom w (2 ^ 64 - 1)
from_all w none = record { none = λ i low _ j _ _. ap (λ n. has n j) none ∙ has_zero j; here = λ i low _. all_there i low }

not_after : (i n : ℕ) → ((i == n) || nat_lt i n) ≡ true → (n < i → ⊥)
not_after i n h less = grind arith

pub up_to_lowest : (w n r : ℕ) → IsLowest w n → ((i : ℕ) → i < 64 → has r i ≡ ((i == n) || nat_lt i n)) → IsUpTo w r
up_to_lowest w n r lowest is = search (rules, not_after)

not_before : (i n : ℕ) → not (nat_lt i n) ≡ true → (i < n → ⊥)
not_before i n h less = grind arith

pub highest_onward : (w n r : ℕ) → IsHighest w n → ((i : ℕ) → i < 64 → has r i ≡ not (nat_lt i n)) → IsFrom w r
highest_onward w n r highest is = search (rules, not_before)
