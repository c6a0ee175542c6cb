-- `lines_of` gives the lines of the tokens, and there are no others.
use Rattle.pgn_layout.proofs.Words.{common_steps, ◌≡◌, ℕ, ◌+◌, ◌<◌, ◌≤◌, true, false, List, [], ◌∷◌, ◌++◌, map, length, refl, sym, ap, ◌∙◌, append_assoc, append-nil, arith, length-append, All, All-head, All-tail, nat_tests, le-leb, lt-leb, Line, tokens_on, spaced, text_on, tokens_over, AreFull, Lines, IsToken, has_room, lines_from, lines_of, TokensDetermineLines}

-- tokens that fit go on the line
fills : (line : List ℕ) (ts more : List (List ℕ)) → length (line ++ spaced ts) ≤ 79
    → lines_from line (ts ++ more) ≡ lines_from (line ++ spaced ts) more
fills line [] more fits = grind (arith, common_steps, append-nil)
fills line (t ∷ ts) more fits = grind (arith, common_steps, append_assoc, le-leb, length-append, fills (line ++ 32 ∷ t) ts)

-- full lines are those of their tokens
only_full : (parts : List Line) → AreFull parts → lines_of (tokens_over parts) ≡ map text_on parts
only_full [] full = refl
only_full (l ∷ []) full = fills l.first l.others [] full
only_full (l ∷ m ∷ ls) full = grind (arith, common_steps, lt-leb, fills, only_full (m ∷ ls) full.2)

-- The tokens determine the lines.
pub lines_are : (tokens lines : List (List ℕ)) → Lines tokens lines → lines ≡ lines_of tokens
lines_are tokens lines h = sym h.texts ∙ sym (only_full h.parts h.full) ∙ ap lines_of h.in_order

abbrev pub alone : List ℕ → Line
alone t = record { first = t; others = [] }

abbrev pub grown : Line → List ℕ → Line
grown l t = record { first = l.first; others = l.others ++ t ∷ [] }

-- the tokens of each line
abbrev pub parts_from : Line → List (List ℕ) → List Line
parts_from l [] = l ∷ []
parts_from l (t ∷ ts) = elim (has_room (text_on l) t) [ true ↦ parts_from (grown l t) ts | false ↦ l ∷ parts_from (alone t) ts ]

spaced-append : (xs ys : List (List ℕ)) → spaced (xs ++ ys) ≡ spaced xs ++ spaced ys
spaced-append [] ys = refl
spaced-append (x ∷ xs) ys = grind (arith, common_steps, append_assoc, spaced-append xs)

pub text_on-grown : (l : Line) (t : List ℕ) → text_on (grown l t) ≡ text_on l ++ 32 ∷ t
text_on-grown l t = grind (arith, common_steps, spaced-append, append-nil, append_assoc)

pub in_order : (l : Line) (ts : List (List ℕ)) → tokens_over (parts_from l ts) ≡ tokens_on l ++ ts
in_order l [] = refl
in_order l (t ∷ ts) = grind (arith, common_steps, append_assoc, in_order (grown l t) ts, in_order (alone t) ts)

full_onto : (l m : Line) (ts : List (List ℕ)) → length (text_on l) ≤ 79 → 79 < length (text_on l) + 1 + length m.first
    → AreFull (parts_from m ts) → AreFull (l ∷ parts_from m ts)
full_onto l m [] fits long full = (fits, long, full)
full_onto l m (t ∷ ts) fits long full = grind (arith, common_steps, full_onto l (grown m t) ts fits)

full_from : (l : Line) (ts : List (List ℕ)) → length (text_on l) ≤ 79 → All IsToken ts → AreFull (parts_from l ts)
full_from l [] fits each = fits
full_from l (t ∷ ts) fits each =
    let one = All-head IsToken t ts each in
    let rest = All-tail IsToken t ts each in
    grind (arith, common_steps, nat_tests, text_on-grown, length-append, append-nil, full_onto l (alone t) ts fits, full_from (grown l t) ts, full_from (alone t) ts)

-- Tokens that lines can take have lines.
pub lines_hold : (tokens : List (List ℕ)) → All IsToken tokens → Lines tokens (lines_of tokens)
lines_hold [] each = grind (arith, common_steps, in_order)
lines_hold (t ∷ ts) each =
    let one = All-head IsToken t ts each in
    let whole = full_from (alone t) ts (rw (append-nil t) one.fits) (All-tail IsToken t ts each) in
    record {
      parts = parts_from (alone t) ts;
      in_order = in_order (alone t) ts;
      texts = sym (only_full (parts_from (alone t) ts) whole) ∙ ap lines_of (in_order (alone t) ts);
      full = whole;
    }

pub tokens_determine_lines : TokensDetermineLines
tokens_determine_lines tokens lines each = (lines_are tokens lines, λ e. rw e (lines_hold tokens each))
