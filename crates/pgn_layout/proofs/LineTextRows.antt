-- Worked rows of the text of lines (PGN 8.2.1): each token is in it, in order, with a space or LF
-- behind it, and nothing else is.
use Rattle.pgn_layout.proofs.Words.{common_steps, ◌≡◌, ℕ, List, [], ◌∷◌, ◌++◌, refl, arith, codes, IsTrue, false≢true, LinesKeepTokens, LinesOfKeepTokens, is_gap, IsTextOf, no_token, next_token, text_of}
use Rattle.pgn_layout.proofs.LineRows.{letters, few, on_one_line, on_two_lines, full_line, two_lines, no_line}

texts_by_rules : Unit {0}
texts_by_rules =
    let one_line : IsTextOf few (codes "e4 e5\n") = next_token (codes "e4") 32 _ _ refl (next_token (codes "e5") 10 _ _ refl no_token) in
    let two_lines : IsTextOf few (codes "e4\ne5\n") = next_token (codes "e4") 10 _ _ refl (next_token (codes "e5") 10 _ _ refl no_token) in
    tt

texts_by_law : LinesKeepTokens → Unit {0}
texts_by_law law =
    let one_line : IsTextOf on_one_line (letters 40 ++ 32 ∷ letters 38 ++ 10 ∷ []) = law _ _ full_line in
    let two_lines : IsTextOf on_two_lines (letters 40 ++ 10 ∷ letters 39 ++ 10 ∷ []) = law _ _ two_lines in
    let nothing : IsTextOf [] [] = law _ _ no_line in
    tt

-- also a token that no line can take, which `Lines` has none for
long_token_by_law : LinesOfKeepTokens → IsTextOf (letters 80 ∷ []) (letters 80 ++ 10 ∷ [])
long_token_by_law law = law (letters 80 ∷ [])

-- ---- texts that are none

-- what a text of tokens begins with
record Begins (t s : List ℕ) (ts : List (List ℕ)) : Type 0 where
  byte : ℕ
  rest : List ℕ
  is : s ≡ t ++ byte ∷ rest
  gap : IsTrue (is_gap byte)
  more : IsTextOf ts rest

abbrev Opened : List (List ℕ) → List ℕ → Type 0
Opened [] s = s ≡ []
Opened (t ∷ ts) s = Begins t s ts

opened : (tokens : List (List ℕ)) (s : List ℕ) → IsTextOf tokens s → Opened tokens s
opened tokens s h1 = grind (arith, common_steps)

-- a first token of two bytes has a space or LF behind it
third_is_gap : (a b c : ℕ) (s : List ℕ) (x y : ℕ) (ts : List (List ℕ)) → IsTextOf ((x ∷ y ∷ []) ∷ ts) (a ∷ b ∷ c ∷ s)
    → (a ≡ x) × (b ≡ y) × IsTrue (is_gap c) × IsTextOf ts s
third_is_gap a b c s x y ts h = grind (arith, common_steps, opened)

abbrev IsNoText : List ℕ → Type 0
IsNoText s = IsTextOf few s → ⊥

lost_token : IsNoText (codes "e4\n")
lost_token h = grind (arith, common_steps, opened, third_is_gap)

other_texts : Unit {0}
other_texts =
    let two_spaces : IsNoText (codes "e4  e5\n") = λ h. grind (arith, common_steps, third_is_gap) in
    let no_gap : IsNoText (codes "e4e5\n") = λ h. false≢true (third_is_gap _ _ _ _ _ _ _ h).2 in
    let tabulator : IsNoText (codes "e4\te5\n") = λ h. false≢true (third_is_gap _ _ _ _ _ _ _ h).2 in
    let other_order : IsNoText (codes "e5 e4\n") = λ h. omega (arith, (third_is_gap _ _ _ _ _ _ _ h).1) in
    let no_last_lf : IsNoText (codes "e4 e5") = λ h. grind (arith, common_steps, opened, third_is_gap) in
    let token_too_many : IsNoText (codes "e4 e5 *\n") = λ h. grind (arith, common_steps, third_is_gap, opened) in
    tt

-- ---- The law is false without its premise, that the lines are those of the tokens.
fails_at_other_lines : ((tokens lines : List (List ℕ)) → IsTextOf tokens (text_of lines)) → ⊥
fails_at_other_lines law = lost_token (law few (codes "e4" ∷ []))
