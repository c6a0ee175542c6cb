-- Worked rows of the rules that cut a text into tokens (PGN 5, 6, 7, 10), and of the law that they
-- cut it in one way: the tokens that the rules give a text, and others that they do not.
use Rattle.pgn_lexer.proofs.Words.{◌≡◌, ℕ, List, [], ◌∷◌, ◌++◌, length, refl, sym, ap, ◌∙◌, arith, codes, replicate, StrayByte, SymbolTooLong, StringTooLong, WordTooLong, GlyphRange, BadSuffix, BraceInLineComment, UnclosedString, UnclosedComment, Kind, Token, left_bracket, right_bracket, period, asterisk, symbol, str, glyph, comment_open, word, comment_close, end, refused, tokens_of, Lexes}
use Rattle.pgn_lexer.proofs.cutting.EachTextIsCut.{lexes_once}

abbrev pub t : ℕ → Kind → Token
t at kind = record { at = at; kind = kind }

-- the end of the text, behind a token
abbrev pub ending : ℕ → List Token
ending at = t at end ∷ []

-- the place of the first token
abbrev first_place : List Token → ℕ
first_place [] = 0
first_place (t ∷ ts) = t.at

abbrev pub letters : ℕ → List ℕ
letters n = replicate n 97

-- by the law, from `tokens_of` to the rules
by_law : {s : List ℕ} {ts : List Token} → ts ≡ tokens_of s → Lexes s ts
by_law {s} {ts} same = (lexes_once s ts).1 same

-- By the law all tokens of a text are the same.
one_way : {s : List ℕ} {right other : List Token} → Lexes s right → Lexes s other → other ≡ right
one_way {s} {right} {other} a b = (lexes_once s other).0 b ∙ sym ((lexes_once s right).0 a)

-- ---- symbols (PGN 7)

symbols : Unit {0}
symbols =
    -- A symbol has all the bytes that continue it: `12` is one symbol.
    let number : Lexes (codes "12") (t 0 (symbol (codes "12")) ∷ ending 2) = by_law refl in
    let two_symbols : Lexes (codes "12")
    (t 0 (symbol (codes "1")) ∷ t 1 (symbol (codes "2")) ∷ ending 2) → ⊥ = λ h. omega (arith, ap length (one_way number h)) in
    let draw : Lexes (codes "1/2-1/2") (t 0 (symbol (codes "1/2-1/2")) ∷ ending 7) = by_law refl in
    -- A symbol of 255 bytes is a token, one of 256 bytes is rejected.
    let full_symbol : Lexes (letters 255) (t 0 (symbol (letters 255)) ∷ ending 255) = by_law refl in
    let long_symbol : Lexes (letters 256) (t 0 (refused SymbolTooLong) ∷ []) = by_law refl in
    let symbol_of_256 : Lexes (letters 256)
    (t 0 (symbol (letters 256)) ∷ ending 256) → ⊥ = λ h. omega (arith, ap length (one_way long_symbol h)) in
    tt

-- ---- strings (PGN 7)

strings : Unit {0}
strings =
    -- `"a\"b"`: a quote within data has a backslash before it.
    let quoted : Lexes (codes "\"a\\\"b\"") (t 0 (str (codes "a\"b")) ∷ ending 6) = by_law refl in
    let cut_at_quote : Lexes (codes "\"a\\\"b\"")
    (t 0 (str (codes "a\\")) ∷ t 4 (symbol (codes "b")) ∷ t 5 (refused UnclosedString) ∷ []) → ⊥ = λ h. omega (arith, ap length (one_way quoted h)) in
    -- 255 bytes of data are a string, 256 are rejected.
    let full_string : Lexes (34 ∷ (letters 255 ++ 34 ∷ [])) (t 0 (str (letters 255)) ∷ ending 257) = by_law refl in
    let long_string : Lexes (34 ∷ (letters 256 ++ 34 ∷ [])) (t 0 (refused StringTooLong) ∷ []) = by_law refl in
    let string_of_256 : Lexes (34 ∷ (letters 256 ++ 34 ∷ []))
    (t 0 (str (letters 256)) ∷ ending 258) → ⊥ = λ h. omega (arith, ap length (one_way long_string h)) in
    tt

-- ---- glyphs and suffixes (PGN 8.2.3.8, 8.2.4)

glyphs : Unit {0}
glyphs =
    let largest_glyph : Lexes (codes "$255") (t 0 (glyph 255) ∷ ending 4) = by_law refl in
    let large_glyph : Lexes (codes "$256") (t 0 (refused GlyphRange) ∷ []) = by_law refl in
    let glyph_256 : Lexes (codes "$256") (t 0 (glyph 256) ∷ ending 4) → ⊥ = λ h. omega (arith, ap length (one_way large_glyph h)) in
    -- `!!` is one suffix, `!!!` is none.
    let very_good : Lexes (codes "!!") (t 0 (glyph 3) ∷ ending 2) = by_law refl in
    let two_suffixes : Lexes (codes "!!")
    (t 0 (glyph 1) ∷ t 1 (glyph 1) ∷ ending 2) → ⊥ = λ h. omega (arith, ap length (one_way very_good h)) in
    let three_marks : Lexes (codes "!!!") (t 0 (refused BadSuffix) ∷ []) = by_law refl in
    let suffix_after_suffix : Lexes (codes "!!!")
    (t 0 (glyph 3) ∷ t 2 (glyph 1) ∷ ending 3) → ⊥ = λ h. omega (arith, ap length (one_way three_marks h)) in
    tt

-- ---- comments (PGN 5)

comments : Unit {0}
comments =
    -- A word of 79 bytes is a token, one of 80 bytes is rejected.
    let full_word : Lexes (123 ∷ (letters 79 ++ 125 ∷ []))
    (t 0 comment_open ∷ t 1 (word (letters 79)) ∷ t 80 comment_close ∷ ending 81) = by_law refl in
    let long_word : Lexes (123 ∷ (letters 80 ++ 125 ∷ [])) (t 0 comment_open ∷ t 1 (refused WordTooLong) ∷ []) = by_law refl in
    let word_of_80 : Lexes (123 ∷ (letters 80 ++ 125 ∷ []))
    (t 0 comment_open ∷ t 1 (word (letters 80)) ∷ t 81 comment_close ∷ ending 82) → ⊥ = λ h. omega (arith, ap length (one_way long_word h)) in
    -- A comment from a semicolon closes at the end of its line, before the first column of the
    -- next.
    let line_comment : Lexes (codes ";a\n%\n*")
    (t 0 comment_open ∷ t 1 (word (codes "a")) ∷ t 2 comment_close ∷ t 5 asterisk ∷ ending 6) = by_law refl in
    let percent_after_line_comment : Lexes (codes ";a\n%\n*")
    (t 0 comment_open ∷ t 1 (word (codes "a")) ∷ t 2 comment_close ∷ t 3 (refused StrayByte) ∷ []) → ⊥ = λ h. grind (arith, lexes_once) in
    -- A comment in braces has to close, one from a semicolon ends with the text.
    let open_comment : Lexes (codes "{") (t 0 comment_open ∷ t 1 (refused UnclosedComment) ∷ []) = by_law refl in
    let open_line : Lexes (codes ";") (t 0 comment_open ∷ t 1 comment_close ∷ ending 1) = by_law refl in
    let brace_in_line : Lexes (codes ";}") (t 0 comment_open ∷ t 1 (refused BraceInLineComment) ∷ []) = by_law refl in
    tt

-- ---- escape lines (PGN 6) and the byte order mark

lines_and_mark : Unit {0}
lines_and_mark =
    -- An escape line begins in the first column alone.
    let escape_line : Lexes (codes "%*\n*") (t 3 asterisk ∷ ending 4) = by_law refl in
    let escape_of_one_byte : Lexes (codes "%*\n*")
    (t 1 asterisk ∷ t 3 asterisk ∷ ending 4) → ⊥ = λ h. omega (arith, ap length (one_way escape_line h)) in
    let late_percent : Lexes (codes " %") (t 1 (refused StrayByte) ∷ []) = by_law refl in
    let escape_in_second_column : Lexes (codes " %") (ending 2) → ⊥ = λ h. grind (arith, lexes_once) in
    -- The mark is skipped, and its three bytes are counted in places.
    let mark : Lexes (239 ∷ 187 ∷ 191 ∷ codes "*") (t 3 asterisk ∷ ending 4) = by_law refl in
    let mark_not_counted : Lexes (239 ∷ 187 ∷ 191 ∷ codes "*")
    (t 0 asterisk ∷ ending 1) → ⊥ = λ h. omega (arith, ap first_place (one_way mark h)) in
    let mark_as_bytes : Lexes (239 ∷ 187 ∷ 191 ∷ codes "*")
    (t 0 (refused StrayByte) ∷ []) → ⊥ = λ h. omega (arith, ap length (one_way mark h)) in
    tt

-- ---- a game

game : Lexes (codes "[A \"x\"]\n1. e4! {b}\n*")
    (t 0 left_bracket ∷ t 1 (symbol (codes "A")) ∷ t 3 (str (codes "x")) ∷ t 6 right_bracket
    ∷ t 8 (symbol (codes "1")) ∷ t 9 period ∷ t 11 (symbol (codes "e4")) ∷ t 13 (glyph 1)
    ∷ t 15 comment_open ∷ t 16 (word (codes "b")) ∷ t 17 comment_close ∷ t 19 asterisk ∷ ending 20)
game = by_law refl
