-- Escapes make a value no shorter.
use Rattle.pgn_game.proofs.Words.{ℕ, ◌≤◌, Bool, List, [], ◌∷◌, length, arith, length-append, if◌then◌else◌, escaped, rules}

some_byte : (e : Bool) (b : ℕ) → 1 ≤ length (if e then 92 ∷ b ∷ [] else b ∷ [])
some_byte e b = search rules

pub length-le-escaped : (value : List ℕ) → length value ≤ length (escaped value)
length-le-escaped [] = omega arith
length-le-escaped (b ∷ bs) =
    let rest = length-le-escaped bs in search (rules, some_byte, length-append)
