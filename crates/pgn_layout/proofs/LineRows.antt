-- Worked rows of the laws of lines (PGN 8.2.1, 8.2.6), with their premises and without.
use Rattle.pgn_layout.proofs.Words.{common_steps, ◌≡◌, ℕ, ◌<◌, ◌≤◌, List, [], ◌∷◌, ◌++◌, map, length, refl, sym, ap, arith, length-append, ◌↔◌, All, codes, replicate, All-cons, All-nil, Line, AreFull, IsToken, Lines, full_lines, last_line, lines_of, text_of, tokens_over, EndGame, Put, laid_from, LinesAreThosePut, TokensDetermineLines}

-- a token of so many bytes
abbrev pub letters : ℕ → List ℕ
letters n = replicate n 97

abbrev whole_line : List (List ℕ)
whole_line = letters 79 ∷ []

-- two tokens that fit on a line of 79 bytes, and two of which the line would have 80
abbrev pub on_one_line : List (List ℕ)
on_one_line = letters 40 ∷ letters 38 ∷ []

abbrev pub on_two_lines : List (List ℕ)
on_two_lines = letters 40 ∷ letters 39 ∷ []

abbrev pub few : List (List ℕ)
few = codes "e4" ∷ codes "e5" ∷ []

one_fits : (t : List ℕ) → IsToken t → All IsToken (t ∷ [])
one_fits t it = All-cons IsToken t [] it (All-nil IsToken)

two_fit : (t u : List ℕ) → IsToken t → IsToken u → All IsToken (t ∷ u ∷ [])
two_fit t u it iu = All-cons IsToken t (u ∷ []) it (one_fits u iu)

fit_79 : All IsToken on_one_line
fit_79 = two_fit _ _ (omega arith) (omega arith)

fit_80 : All IsToken on_two_lines
fit_80 = two_fit _ _ (omega arith) (omega arith)

few_fit : All IsToken few
few_fit = two_fit _ _ (omega arith) (omega arith)

-- Without tokens there is no line.
pub no_line : Lines [] []
no_line = record { parts = []; in_order = refl; texts = refl; full = tt }

-- A token of 79 bytes fills its line.
full_token : Lines whole_line whole_line
full_token = record { parts = record { first = letters 79; others = [] } ∷ []; in_order = refl; texts = refl; full = omega arith }

-- 40 bytes, a space and 38 bytes are 79 bytes: one line.
pub full_line : Lines on_one_line ((letters 40 ++ 32 ∷ letters 38) ∷ [])
full_line = record { parts = record { first = letters 40; others = letters 38 ∷ [] } ∷ []; in_order = refl; texts = refl; full = omega arith }

-- 40 bytes, a space and 39 bytes are 80 bytes: two lines.
pub two_lines : Lines on_two_lines on_two_lines
two_lines = record {
  parts = record { first = letters 40; others = [] } ∷ record { first = letters 39; others = [] } ∷ [];
  in_order = refl;
  texts = refl;
  full = omega arith;
}

-- the bytes of the first line
abbrev first_of : List (List ℕ) → List ℕ
first_of [] = []
first_of (l ∷ ls) = l

-- the second byte
abbrev second : List ℕ → ℕ
second (a ∷ b ∷ bs) = b
second _ = 0

-- The law at these tokens, in both directions.
tokens_determine_lines : TokensDetermineLines → Unit {0}
tokens_determine_lines law =
    let full_token : Lines whole_line whole_line = (law whole_line _ (one_fits _ (omega arith))).1 refl in
    let full_line : Lines on_one_line ((letters 40 ++ 32 ∷ letters 38) ∷ []) = (law on_one_line _ fit_79).1 refl in
    let two_lines : lines_of on_two_lines ≡ on_two_lines = sym ((law _ _ fit_80).0 two_lines) in
    -- A line of 80 bytes is none, though its tokens are in order.
    let line_of_80 : Lines on_two_lines ((letters 40 ++ 32 ∷ letters 39) ∷ []) → ⊥ = λ h. omega (arith, ap length ((law _ _ fit_80).0 h)) in
    -- A line that could have taken the next token is none.
    let line_with_room : Lines on_one_line on_one_line → ⊥ = λ h. omega (arith, ap length ((law _ _ fit_79).0 h)) in
    let other_order : Lines few (codes "e5 e4" ∷ []) → ⊥ = λ h. omega (arith, ap (λ ls. second (first_of ls)) ((law _ _ few_fit).0 h)) in
    let two_spaces : Lines few (codes "e4  e5" ∷ []) → ⊥ = λ h. omega (arith, ap (λ ls. length (first_of ls)) ((law _ _ few_fit).0 h)) in
    let empty_line : Lines few (codes "e4 e5" ∷ [] ∷ []) → ⊥ = λ h. omega (arith, ap length ((law _ _ few_fit).0 h)) in
    let lost_token : Lines few (codes "e4" ∷ []) → ⊥ = λ h. omega (arith, ap (λ ls. length (first_of ls)) ((law _ _ few_fit).0 h)) in
    tt

-- A token of more than 79 bytes has no lines.
no_line_takes : (t : List ℕ) → 79 < length t → (parts : List Line) → tokens_over parts ≡ t ∷ [] → AreFull parts → ⊥
no_line_takes t long [] e full = omega (arith, ap length e)
no_line_takes t long (l ∷ []) e full = grind (arith, common_steps, length-append)
no_line_takes t long (l ∷ m ∷ ls) e full = grind (arith, common_steps, length-append)

long_token : (lines : List (List ℕ)) → Lines (letters 80 ∷ []) lines → ⊥
long_token lines h = no_line_takes (letters 80) (omega arith) h.parts h.in_order h.full

-- So the law is false for tokens of 80 bytes, and without its premise.
fails_at_80 :
    ((tokens lines : List (List ℕ)) → All (λ t. (0 < length t) × (length t ≤ 80)) tokens →
    Lines tokens lines ↔ (lines ≡ lines_of tokens)) → ⊥
fails_at_80 law =
    let P : List ℕ → Type 0 = λ t. (0 < length t) × (length t ≤ 80) in
    long_token _ ((law (letters 80 ∷ []) _ (All-cons P _ [] (omega arith, omega arith) (All-nil P))).1 refl)

fails_unless_tokens_fit : ((tokens lines : List (List ℕ)) → Lines tokens lines ↔ (lines ≡ lines_of tokens)) → ⊥
fails_unless_tokens_fit law = long_token _ ((law (letters 80 ∷ []) _).1 refl)

-- What is put on lines: the full line goes out, and the last one is held.
put_in_turn :
    LinesAreThosePut →
    (laid_from [] (Put (letters 40) ∷ Put (letters 39) ∷ []) ≡ record { written = letters 40 ++ 10 ∷ []; line = letters 39 })
    × (laid_from [] (Put (letters 40) ∷ Put (letters 39) ∷ EndGame ∷ [])
    ≡ record { written = letters 40 ++ 10 ∷ letters 39 ++ 10 ∷ 10 ∷ []; line = [] })
put_in_turn law = law _ _ fit_80 two_lines

-- what that law says of tokens and lines
abbrev ArePut : List (List ℕ) → List (List ℕ) → Type 0
ArePut tokens lines = laid_from [] (map Put tokens) ≡ record { written = text_of (full_lines lines); line = last_line lines }

-- It is false without the premise that the lines are those of the tokens.
fails_at_other_lines : ((tokens lines : List (List ℕ)) → All IsToken tokens → ArePut tokens lines) → ⊥
fails_at_other_lines law = omega (arith, ap (λ l. length l.line) (law few (codes "e4" ∷ []) few_fit))

-- It is false for an empty token: that has lines, but the space after it is not put.
empty_token : Lines ([] ∷ codes "e4" ∷ []) (codes " e4" ∷ [])
empty_token = record { parts = record { first = []; others = codes "e4" ∷ [] } ∷ []; in_order = refl; texts = refl; full = omega arith }

fails_unless_tokens_are_not_empty :
    ((tokens lines : List (List ℕ)) → All (λ t. length t ≤ 79) tokens → Lines tokens lines → ArePut tokens lines) → ⊥
fails_unless_tokens_are_not_empty law =
    let P : List ℕ → Type 0 = λ t. length t ≤ 79 in
    let word : All P (codes "e4" ∷ []) = All-cons P (codes "e4") [] (omega arith) (All-nil P) in
    let each : All P ([] ∷ codes "e4" ∷ []) = All-cons P [] (codes "e4" ∷ []) (omega arith) word in
    absurd (omega (arith, ap (λ l. length l.line) (law _ _ each empty_token)))
