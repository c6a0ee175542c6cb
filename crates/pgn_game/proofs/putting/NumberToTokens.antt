-- Numbers in movetext as tokens, and one token put in turn.
use Rattle.pgn_game.proofs.Words.{◌≡◌, ℕ, ◌<◌, ◌≤◌, ◌^◌, List, [], ◌∷◌, ◌++◌, length, decimal, Result, OnOk, append-nil, length-append, arith, Counts, Device, Writes, IsToken, Put, text_at, line_at, PutsTokens, common_steps}
use Rattle.std.proofs.lemmas.Fmt.{decimal_nonempty, length-decimal-le}

-- the digits of a move number, and its periods
pub number_token : (n : ℕ) (periods : List ℕ) → n < 2 ^ 32 → length periods ≤ 3 → IsToken (decimal n ++ periods)
number_token n periods fits short =
    let some : 0 < length (decimal n) = decimal_nonempty n (omega (arith, fits)) in
    let few : length (decimal n) ≤ 10 = length-decimal-le 10 n (omega arith) (omega (arith, fits)) (omega (arith, fits)) in
    record { not_empty = omega (arith, length-append (decimal n) periods, some); fits = omega (arith, length-append (decimal n) periods, few, short) }

-- `$` (36), and the digits of a NAG
pub glyph_token : (n : ℕ) → n < 2 ^ 8 → IsToken (36 ∷ decimal n)
glyph_token n fits = grind (arith, common_steps, decimal, length-decimal-le)

-- one token, put by one call
pub puts_token : {A E : Type 0} (t line new_line : List ℕ) (r : Result A E) (d : Device) → IsToken t
    → Writes d.before d.after r (text_at line (Put t)) → OnOk r (new_line ≡ line_at line (Put t)) → Counts r d.failures d.failures_after
    → PutsTokens (t ∷ []) line new_line r d
puts_token t line new_line r d token text held counted = grind (arith, common_steps, append-nil)
