-- Worked rows of what tokens are made of (PGN 5, 7, 8.2.4): tokens of texts that are sound by the
-- law, and tokens that no text has.
use Rattle.pgn_lexer.proofs.Words.{◌≡◌, ℕ, ◌≤◌, List, [], ◌∷◌, length, ◌+◌, refl, arith, codes, false≢true, UnclosedComment, IsSymbol, IsData, IsWord, AreSoundTokens, Kind, Token, symbol, str, glyph, comment_open, word, comment_close, refused, tokens_of}
use Rattle.pgn_lexer.proofs.cutting.TokensAreSound.{tokens_are_sound}
use Rattle.pgn_lexer.proofs.rows.CuttingRows.{t, letters, ending}

-- a comment with one token in it, of so many bytes
abbrev around : Kind → ℕ → List Token
around kind n = t 0 comment_open ∷ t 1 kind ∷ t (1 + n) comment_close ∷ ending (2 + n)

-- Tokens that no text has.
abbrev IsOfNoText : List Token → Type 0
IsOfNoText ts = (s : List ℕ) → tokens_of s ≡ ts → ⊥

-- by the law, tokens that are not sound
of_no_text : {ts : List Token} → (AreSoundTokens ts → ⊥) → IsOfNoText ts
of_no_text wrong s e = wrong (rw e at (tokens_are_sound s))

-- ---- by the law, of a text

move_by_law : IsSymbol (codes "Nbd7+")
move_by_law = (tokens_are_sound (codes "Nbd7+ *")).texts.0

draw_by_law : IsSymbol (codes "1/2-1/2")
draw_by_law = (tokens_are_sound (codes "1/2-1/2")).texts.0

-- `[A "a\"\\"]`: quotes and backslashes are data
data_by_law : IsData (codes "a\"\\")
data_by_law = (tokens_are_sound (codes "[A \"a\\\"\\\\\"]")).texts.1.1.0

-- `{%a; {(}`: percent sign, semicolon, brace and parenthesis are bytes of words
first_word_by_law : IsWord (codes "%a;")
first_word_by_law = (tokens_are_sound (codes "{%a; {(}")).texts.1.0

second_word_by_law : IsWord (codes "{(")
second_word_by_law = (tokens_are_sound (codes "{%a; {(}")).texts.1.1.0

-- ---- sound, by computing

word_a : IsWord (codes "a")
word_a = record { some = omega arith; bytes = refl; fits = omega arith }

a_comment : AreSoundTokens (around (word (codes "a")) 1)
a_comment = grind arith

-- a comment that is not closed ends with a rejection
abbrev cut_short : List Token
cut_short = t 0 comment_open ∷ t 1 (word (codes "a")) ∷ t 2 (refused UnclosedComment) ∷ []

open_comment : AreSoundTokens cut_short
open_comment = grind arith

-- ---- symbols: the first byte, the others, the length

abbrev NoSymbol : List ℕ → Type 0
NoSymbol s = IsOfNoText (t 0 (symbol s) ∷ ending (length s))

symbols_of_no_text : Unit {0}
symbols_of_no_text =
    let lone_dash : NoSymbol (codes "-1") = of_no_text (λ h. false≢true h.texts.0.begins) in
    let underscore_first : NoSymbol (codes "_a") = of_no_text (λ h. false≢true h.texts.0.begins) in
    let no_byte : NoSymbol [] = of_no_text (λ h. false≢true h.texts.0.begins) in
    let space_in_symbol : NoSymbol (codes "e4 e5") = of_no_text (λ h. false≢true h.texts.0.bytes) in
    let period_in_symbol : NoSymbol (codes "1.") = of_no_text (λ h. false≢true h.texts.0.bytes) in
    let symbol_of_256 : NoSymbol (letters 256) = of_no_text (λ h. grind arith) in
    tt

-- ---- strings and glyphs

abbrev NoString : List ℕ → Type 0
NoString s = IsOfNoText (t 0 (str s) ∷ ending (2 + length s))

strings_of_no_text : Unit {0}
strings_of_no_text =
    let lf_in_string : NoString (codes "a\nb") = of_no_text (λ h. false≢true h.texts.0.bytes) in
    let tab_in_string : NoString (9 ∷ []) = of_no_text (λ h. false≢true h.texts.0.bytes) in
    let delete_in_string : NoString (127 ∷ []) = of_no_text (λ h. false≢true h.texts.0.bytes) in
    let string_of_256 : NoString (letters 256) = of_no_text (λ h. grind arith) in
    let glyph_256 : IsOfNoText (t 0 (glyph 256) ∷ ending 4) = of_no_text (λ h. let few : 256 ≤ 255 = h.texts.0 in omega arith) in
    tt

-- ---- words, and where they are

abbrev NoWord : List ℕ → Type 0
NoWord s = IsOfNoText (around (word s) (length s))

words_of_no_text : Unit {0}
words_of_no_text =
    let space_in_word : NoWord (codes "a b") = of_no_text (λ h. false≢true h.texts.1.0.bytes) in
    let brace_in_word : NoWord (codes "a}") = of_no_text (λ h. false≢true h.texts.1.0.bytes) in
    let control_in_word : NoWord (1 ∷ []) = of_no_text (λ h. false≢true h.texts.1.0.bytes) in
    let empty_word : NoWord [] = of_no_text (λ h. grind arith) in
    let word_of_80 : NoWord (letters 80) = of_no_text (λ h. grind arith) in
    let word_outside : IsOfNoText (t 0 (word (codes "a")) ∷ ending 1) = of_no_text (λ h. h.comments) in
    let word_behind_comment : IsOfNoText (t 0 comment_open ∷ t 1 comment_close ∷ t 2 (word (codes "a")) ∷ ending 3) = of_no_text (λ h. h.comments) in
    let close_outside : IsOfNoText (t 0 comment_close ∷ ending 1) = of_no_text (λ h. h.comments) in
    let comment_in_comment : IsOfNoText (around comment_open 1) = of_no_text (λ h. h.comments) in
    let move_in_comment : IsOfNoText (around (symbol (codes "e4")) 2) = of_no_text (λ h. h.comments) in
    let end_in_comment : IsOfNoText (t 0 comment_open ∷ ending 1) = of_no_text (λ h. h.comments) in
    tt
