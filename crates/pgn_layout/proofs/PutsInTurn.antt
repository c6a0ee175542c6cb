-- What puts in turn write and hold.
use Rattle.pgn_layout.proofs.Words.{common_steps, ◌≡◌, ℕ, List, [], ◌∷◌, ◌++◌, map, refl, sym, ap, ◌∙◌, append_assoc, append-nil, arith, All, All-head, All-tail, IsToken, lines_from, lines_of, full_lines, last_line, text_of, Put, EndGame, Laid, laid_from, LinesAreThosePut}
use Rattle.pgn_layout.proofs.LinesOfTokens.{lines_are}

-- what is written and held, put together
abbrev laid : List ℕ → List ℕ → Laid
laid written line = record { written = written; line = line }

-- a line before the others is full, and not the last
pub full_lines-cons : (l t : List ℕ) (ts : List (List ℕ)) → full_lines (l ∷ lines_from t ts) ≡ l ∷ full_lines (lines_from t ts)
full_lines-cons l t [] = refl
full_lines-cons l t (u ∷ us) = grind (arith, full_lines-cons l (t ++ 32 ∷ u) us)

pub last_line-cons : (l t : List ℕ) (ts : List (List ℕ)) → last_line (l ∷ lines_from t ts) ≡ last_line (lines_from t ts)
last_line-cons l t [] = refl
last_line-cons l t (u ∷ us) = grind (arith, last_line-cons l (t ++ 32 ∷ u) us)

-- what puts write and hold, from a line that holds a token on
puts : (b : ℕ) (bs : List ℕ) (ts : List (List ℕ)) → All IsToken ts
    → laid_from (b ∷ bs) (map Put ts) ≡ laid (text_of (full_lines (lines_from (b ∷ bs) ts))) (last_line (lines_from (b ∷ bs) ts))
puts b bs [] each = refl
puts b bs ([] ∷ ts) each = absurd (omega (arith, (All-head IsToken [] ts each).not_empty))
puts b bs ((x ∷ xs) ∷ ts) each =
    let rest = All-tail IsToken (x ∷ xs) ts each in
    grind (arith, common_steps, full_lines-cons, last_line-cons, puts b (bs ++ 32 ∷ (x ∷ xs)) ts rest, puts x xs ts rest)

-- what the end of the game adds
ends : (b : ℕ) (bs : List ℕ) (ts : List (List ℕ)) → All IsToken ts
    → laid_from (b ∷ bs) (map Put ts ++ EndGame ∷ []) ≡ laid (text_of (lines_from (b ∷ bs) ts) ++ 10 ∷ []) []
ends b bs [] each = grind (arith, common_steps, append-nil)
ends b bs ([] ∷ ts) each = absurd (omega (arith, (All-head IsToken [] ts each).not_empty))
ends b bs ((x ∷ xs) ∷ ts) each =
    let rest = All-tail IsToken (x ∷ xs) ts each in
    grind (arith, common_steps, append_assoc, ends b (bs ++ 32 ∷ (x ∷ xs)) ts rest, ends x xs ts rest)

puts_of : (tokens : List (List ℕ)) → All IsToken tokens
    → laid_from [] (map Put tokens) ≡ laid (text_of (full_lines (lines_of tokens))) (last_line (lines_of tokens))
puts_of [] each = refl
puts_of ([] ∷ ts) each = absurd (omega (arith, (All-head IsToken [] ts each).not_empty))
puts_of ((x ∷ xs) ∷ ts) each = puts x xs ts (All-tail IsToken (x ∷ xs) ts each)

ends_of : (tokens : List (List ℕ)) → All IsToken tokens
    → laid_from [] (map Put tokens ++ EndGame ∷ []) ≡ laid (text_of (lines_of tokens) ++ 10 ∷ []) []
ends_of [] each = refl
ends_of ([] ∷ ts) each = absurd (omega (arith, (All-head IsToken [] ts each).not_empty))
ends_of ((x ∷ xs) ∷ ts) each = ends x xs ts (All-tail IsToken (x ∷ xs) ts each)

pub lines_are_those_put : LinesAreThosePut
lines_are_those_put tokens lines each h =
    let e = lines_are tokens lines h in (
      puts_of tokens each ∙ ap (λ ls. laid (text_of (full_lines ls)) (last_line ls)) (sym e),
      ends_of tokens each ∙ ap (λ ls. laid (text_of ls ++ 10 ∷ []) []) (sym e),
    )
