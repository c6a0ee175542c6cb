-- The bytes of a text before place 2^62, and the tokens that they decide.
use Rattle.pgn_game.proofs.Words.{drop-drop, Consumes, Option, Token, tokens_of, ◌≡◌, ℕ, ◌+◌, ◌^◌, List, [], ◌++◌, length, take, drop, refl, sym, ap, ◌∙◌, append_assoc, append-nil, arith, subst, length-take, take_all, ◌≤◌, take-append-add, take-append-drop, AreNext, within_limit, AreShown, so_far, Decides}
use Rattle.pgn_game.specs.public.ConverterCalls.{at_end}

-- a short text is all within it
pub all_within : (s : List ℕ) → length s ≤ 2 ^ 62 → within_limit s ≡ s
all_within s short = take_all (2 ^ 62) s short

-- of a piece behind bytes within it, a front is within it
pub front_within : (u piece : List ℕ) (n : ℕ) → length u + n ≡ 2 ^ 62 → within_limit (u ++ piece) ≡ u ++ take n piece
front_within u piece n place = ap (λ k. take k (u ++ piece)) (sym place) ∙ take-append-add u piece n

-- a text shows the tokens that bytes of it decide
pub shown_by : (s u rest : List ℕ) (ts : List Token) → s ≡ u ++ rest → AreNext (within_limit u) ts → AreShown s ts
shown_by s u rest ts is next =
    so_far (within_limit u) (drop (2 ^ 62) u ++ rest)
    (is ∙ ap (λ v. v ++ rest) (sym (take-append-drop (2 ^ 62) u)) ∙ append_assoc (within_limit u) (drop (2 ^ 62) u) rest)
    (omega (arith, length-take (2 ^ 62) u)) next

pub all_shown : (s : List ℕ) (ts : List Token) → AreNext (within_limit s) ts → AreShown s ts
all_shown s ts next = shown_by s s [] ts (sym (append-nil s)) next

-- it begins with them
pub shown_begins : (s : List ℕ) (ts : List Token) → AreShown s ts → (rest : List Token) × (tokens_of s ≡ ts ++ rest)
shown_begins s ts (so_far front rest is short next) = ((next rest).0, ap tokens_of is ∙ (next rest).1)
shown_begins s ts (at_end short rest cut) = (rest, cut)

-- a source decides the tokens that the bytes decide which it has given
pub decides_by : (left_old left_new : Option (List ℕ)) (u : List ℕ) (ts : List Token)
    → Consumes left_old left_new u → AreNext (within_limit u) ts → Decides left_old left_new ts
decides_by left_old left_new u ts consumed next =
    Decides.so_far (within_limit u) (drop (2 ^ 62) u) (subst (Consumes left_old left_new) (sym (take-append-drop (2 ^ 62) u)) consumed)
    (omega (arith, length-take (2 ^ 62) u)) next

-- no token is decided by all bytes
pub none_next : (u : List ℕ) → AreNext u []
none_next u x = (tokens_of (u ++ x), refl)

-- what is unused after more bytes are used
pub unused_now : (s unused : List ℕ) (old new used : ℕ) → drop old s ≡ unused → new ≡ old + used → drop new s ≡ drop used unused
unused_now s unused old new used is count = ap (λ n. drop n s) count ∙ sym (drop-drop used old s) ∙ ap (drop used) is
