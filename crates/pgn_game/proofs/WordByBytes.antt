-- A word of a text grows by each byte that is no white space.
use Rattle.pgn_game.proofs.Words.{◌≡◌, ℕ, suc, ◌+◌, ◌-◌, ◌<◌, ◌≤◌, false, List, [], ◌∷◌, ◌++◌, length, drop, get_or, refl, subst, arith, drop-cons, take-suc, length-drop, get_or-drop, is_space, words_behind, bytes_between, common_steps, rules}

at_other : (at b : ℕ) (w s : List ℕ) → is_space b ≡ false → words_behind at w (b ∷ s) ≡ words_behind at (w ++ b ∷ []) s
at_other at b w s e = rw e refl

-- the byte at a place, and those behind it
byte_at : (s : List ℕ) (at : ℕ) → at < length s → drop at s ≡ get_or s at 0 ∷ drop (at + 1) s
byte_at s at within =
    let next : suc at ≡ at + 1 = omega arith in subst (λ (n : ℕ). drop at s ≡ get_or s at 0 ∷ drop n s) next (drop-cons s at 0 within)

-- one byte more
between_grown : (s : List ℕ) (begin end : ℕ) → begin ≤ end → end < length s
    → bytes_between s begin end ++ get_or s end 0 ∷ [] ≡ bytes_between s begin (end + 1)
between_grown s begin end ordered within =
    let there : begin + (end - begin) ≡ end = omega arith in let more : suc (end - begin) ≡ (end + 1) - begin = omega arith in
    search (rules, get_or-drop, take-suc, length-drop)

pub word_grown : (s : List ℕ) (begin end : ℕ) → begin ≤ end → end < length s → is_space (get_or s end 0) ≡ false
    → words_behind begin (bytes_between s begin end) (drop end s) ≡ words_behind begin (bytes_between s begin (end + 1)) (drop (end + 1) s)
word_grown s begin end ordered within e = grind (arith, common_steps, byte_at, at_other, between_grown)
