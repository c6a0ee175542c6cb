-- Worked rows: what the definitions compute.
use Prim.Native.String.{String}
use Rattle.pgn_lexer.proofs.Words.{◌≡◌, ℕ, zero, suc, ◌+◌, List, [], ◌∷◌, ◌++◌, filter, replicate, codes, refl, StrayByte, ControlByte, Reserved, SymbolTooLong, StringTooLong, WordTooLong, LoneDollar, GlyphRange, BadSuffix, BraceInLineComment, UnclosedString, UnclosedComment, Token, left_bracket, right_bracket, left_paren, right_paren, period, asterisk, symbol, str, glyph, comment_open, word, comment_close, refused, is_line_end, is_space, is_control, is_digit, is_letter, continues_symbol, is_suffix, continues_word, tokens_of, decided, known}
use Rattle.pgn_lexer.proofs.rows.CuttingRows.{t, ending}

abbrev tokens : String → List Token
tokens s = tokens_of (codes s)

-- a symbol at a place
abbrev sy : ℕ → String → Token
sy at s = t at (symbol (codes s))

tokens_of_texts : Unit {0}
tokens_of_texts =
    let row_marker : tokens "1-0*" ≡ sy 0 "1-0" ∷ t 3 asterisk ∷ ending 4 = refl in
    let row_1 : tokens "e4 & *" ≡ sy 0 "e4" ∷ t 3 (refused StrayByte) ∷ [] = refl in
    let row_2 : tokens_of (codes "e4 " ++ 1 ∷ []) ≡ sy 0 "e4" ∷ t 3 (refused ControlByte) ∷ [] = refl in
    let row_3 : tokens "<1> *" ≡ t 0 (refused Reserved) ∷ [] = refl in
    let row_4 : tokens_of (replicate 256 97) ≡ t 0 (refused SymbolTooLong) ∷ [] = refl in
    let row_5 : tokens_of (codes "[A \"" ++ replicate 256 120 ++ codes "\"]")
    ≡ t 0 left_bracket ∷ sy 1 "A" ∷ t 3 (refused StringTooLong) ∷ [] = refl in
    let row_6 : tokens_of (codes "1. e4 {" ++ replicate 80 119 ++ codes "} *")
    ≡ sy 0 "1" ∷ t 1 period ∷ sy 3 "e4" ∷ t 6 comment_open ∷ t 7 (refused WordTooLong) ∷ [] = refl in
    let row_7 : tokens "e4 $ *" ≡ sy 0 "e4" ∷ t 3 (refused LoneDollar) ∷ [] = refl in
    let row_8 : tokens "e4 $256 *" ≡ sy 0 "e4" ∷ t 3 (refused GlyphRange) ∷ [] = refl in
    let row_9 : tokens "e4!!! *" ≡ sy 0 "e4" ∷ t 2 (refused BadSuffix) ∷ [] = refl in
    let row_10 : tokens "e4 ;a}\n*"
    ≡ sy 0 "e4" ∷ t 3 comment_open ∷ t 4 (word (codes "a")) ∷ t 5 (refused BraceInLineComment) ∷ [] = refl in
    let row_11 : tokens "[A \"x\n" ≡ t 0 left_bracket ∷ sy 1 "A" ∷ t 3 (refused UnclosedString) ∷ [] = refl in
    let row_12 : tokens "e4 {x" ≡ sy 0 "e4" ∷ t 3 comment_open ∷ t 4 (word (codes "x")) ∷ t 5 (refused UnclosedComment) ∷ [] = refl in
    let row_mark : tokens_of (239 ∷ 187 ∷ 191 ∷ codes "%x\r\n;c\r\n[White \"A\"]\r\n1. e4 {a\n%b}*")
    ≡ t 7 comment_open ∷ t 8 (word (codes "c")) ∷ t 9 comment_close ∷ t 11 left_bracket ∷ sy 12 "White" ∷ t 18 (str (codes "A"))
    ∷ t 21 right_bracket ∷ sy 24 "1" ∷ t 25 period ∷ sy 27 "e4" ∷ t 30 comment_open ∷ t 31 (word (codes "a"))
    ∷ t 33 (word (codes "%b")) ∷ t 35 comment_close ∷ t 36 asterisk ∷ ending 37 = refl in
    let row_no_mark : tokens_of (239 ∷ 187 ∷ 42 ∷ []) ≡ t 0 (refused StrayByte) ∷ [] = refl in
    let row_escaped : tokens "\"x\\\"y\\\\z\\q\"" ≡ t 0 (str (codes "x\"y\\z\\q")) ∷ ending 11 = refl in
    let row_suffixes : tokens "!? $007 ??" ≡ t 0 (glyph 5) ∷ t 3 (glyph 7) ∷ t 8 (glyph 4) ∷ ending 10 = refl in
    let row_line_end : tokens ";x" ≡ t 0 comment_open ∷ t 1 (word (codes "x")) ∷ t 2 comment_close ∷ ending 2 = refl in
    -- a symbol at the end may go on; so may a glyph
    let decided_symbol : decided (codes "e4 d") ≡ sy 0 "e4" ∷ [] = refl in
    let decided_glyph : decided (codes "e4 $2") ≡ sy 0 "e4" ∷ [] = refl in
    let decided_mark : decided (239 ∷ 187 ∷ []) ≡ [] = refl in
    let decided_string : decided (codes "[A \"x") ≡ t 0 left_bracket ∷ sy 1 "A" ∷ [] = refl in
    let known_symbol : known (codes "1-0") 32 ≡ sy 0 "1-0" ∷ [] = refl in
    let decided_too_long : decided (replicate 256 97) ≡ t 0 (refused SymbolTooLong) ∷ [] = refl in
    let decided_word : decided (codes "{ab") ≡ t 0 comment_open ∷ [] = refl in
    let decided_closed : decided (codes "[A \"x\"") ≡ t 0 left_bracket ∷ sy 1 "A" ∷ t 3 (str (codes "x")) ∷ [] = refl in
    let row_move : tokens "1.e4!$3" ≡ sy 0 "1" ∷ t 1 period ∷ sy 2 "e4" ∷ t 4 (glyph 1) ∷ t 5 (glyph 3) ∷ ending 7 = refl in
    let row_escape : tokens "% *" ≡ ending 3 = refl in
    let row_escape_ends : tokens "%a\r%b\n*" ≡ t 6 asterisk ∷ ending 7 = refl in
    let row_late_percent : tokens " % *" ≡ t 1 (refused StrayByte) ∷ [] = refl in
    let row_open_comment : tokens "{a" ≡ t 0 comment_open ∷ t 1 (word (codes "a")) ∷ t 2 (refused UnclosedComment) ∷ [] = refl in
    let row_full_symbol : tokens_of (replicate 255 97) ≡ t 0 (symbol (replicate 255 97)) ∷ ending 255 = refl in
    let row_full_string : tokens_of (34 ∷ replicate 254 97 ++ codes "\\\"\"") ≡ t 0 (str (replicate 254 97 ++ 34 ∷ [])) ∷ ending 258 = refl in
    -- a backslash that would be the 256th datum
    let row_last_backslash : tokens_of (34 ∷ replicate 255 97 ++ codes "\\\"") ≡ t 0 (refused StringTooLong) ∷ [] = refl in
    -- a control byte where no datum fits is still told as that
    let row_late_control : tokens_of (34 ∷ replicate 255 97 ++ 9 ∷ []) ≡ t 256 (refused ControlByte) ∷ [] = refl in
    let row_escaped_line_end : tokens "*\"a\\\n" ≡ t 0 asterisk ∷ t 1 (refused UnclosedString) ∷ [] = refl in
    let row_escaped_control : tokens_of (34 ∷ 92 ∷ 1 ∷ []) ≡ t 2 (refused ControlByte) ∷ [] = refl in
    let row_word_before_control : tokens_of (codes "{ab" ++ 127 ∷ [])
    ≡ t 0 comment_open ∷ t 1 (word (codes "ab")) ∷ t 3 (refused ControlByte) ∷ [] = refl in
    let row_line_words : tokens ";a {b;%\t\r\n%x"
    ≡ t 0 comment_open ∷ t 1 (word (codes "a")) ∷ t 3 (word (codes "{b;%")) ∷ t 8 comment_close ∷ ending 12 = refl in
    let row_high_word : tokens_of (123 ∷ 200 ∷ 255 ∷ 125 ∷ [])
    ≡ t 0 comment_open ∷ t 1 (word (200 ∷ 255 ∷ [])) ∷ t 3 comment_close ∷ ending 4 = refl in
    let row_stray_high : tokens_of (codes "a" ++ 128 ∷ []) ≡ sy 0 "a" ∷ t 1 (refused StrayByte) ∷ [] = refl in
    let row_zeros : tokens_of (codes "$" ++ replicate 300 48 ++ codes "7") ≡ t 0 (glyph 7) ∷ ending 302 = refl in
    let row_mark_then_escape : tokens_of (239 ∷ 187 ∷ 191 ∷ codes "%a") ≡ ending 5 = refl in
    let row_second_mark : tokens_of (239 ∷ 187 ∷ 191 ∷ 239 ∷ 187 ∷ 191 ∷ []) ≡ t 3 (refused StrayByte) ∷ [] = refl in
    let known_token_comes : known (codes "e4") 42 ≡ sy 0 "e4" ∷ [] = refl in
    let known_suffix : known (codes "!!") 33 ≡ t 0 (refused BadSuffix) ∷ [] = refl in
    let decided_glyph_too_large : decided (codes "$256") ≡ t 0 (refused GlyphRange) ∷ [] = refl in
    let decided_half_mark : decided (239 ∷ []) ≡ [] = refl in
    let decided_escape : decided (codes "%a") ≡ [] = refl in
    tt

-- the bytes from k on, n of them
abbrev bytes : ℕ → ℕ → List ℕ
bytes zero k = []
bytes (suc n) k = k ∷ bytes n (k + 1)

classes_and_more : Unit {0}
classes_and_more =
    let class_line_end : filter is_line_end (bytes 256 0) ≡ 10 ∷ 13 ∷ [] = refl in
    let class_space : filter is_space (bytes 256 0) ≡ 9 ∷ 10 ∷ 11 ∷ 12 ∷ 13 ∷ 32 ∷ [] = refl in
    let class_control : filter is_control (bytes 256 0) ≡ bytes 9 0 ++ bytes 18 14 ++ 127 ∷ [] = refl in
    let class_digit : filter is_digit (bytes 256 0) ≡ codes "0123456789" = refl in
    let class_letter : filter is_letter (bytes 256 0) ≡ codes "ABCDEFGHIJKLMNOPQRSTUVWXYZabcdefghijklmnopqrstuvwxyz" = refl in
    let class_symbol : filter continues_symbol (bytes 256 0)
    ≡ codes "#+-/0123456789:=ABCDEFGHIJKLMNOPQRSTUVWXYZ_abcdefghijklmnopqrstuvwxyz" = refl in
    let class_suffix : filter is_suffix (bytes 256 0) ≡ codes "!?" = refl in
    let class_word : filter continues_word (bytes 256 0) ≡ bytes 92 33 ++ 126 ∷ bytes 128 128 = refl in
    let row_empty : tokens_of [] ≡ ending 0 = refl in
    let row_mark_alone : tokens_of (239 ∷ 187 ∷ 191 ∷ []) ≡ ending 3 = refl in
    let row_all_suffixes : tokens "! ? !! ?? !? ?!"
    ≡ t 0 (glyph 1) ∷ t 2 (glyph 2) ∷ t 4 (glyph 3) ∷ t 7 (glyph 4) ∷ t 10 (glyph 5) ∷ t 13 (glyph 6) ∷ ending 15 = refl in
    let row_greatest_glyph : tokens "$255" ≡ t 0 (glyph 255) ∷ ending 4 = refl in
    let row_draw : tokens "(1/2-1/2)" ≡ t 0 left_paren ∷ sy 1 "1/2-1/2" ∷ t 8 right_paren ∷ ending 9 = refl in
    let row_full_word : tokens_of (codes "{" ++ replicate 79 119 ++ codes "}")
    ≡ t 0 comment_open ∷ t 1 (word (replicate 79 119)) ∷ t 80 comment_close ∷ ending 81 = refl in
    let row_lone_backslash_fits : tokens_of (34 ∷ replicate 253 97 ++ codes "\\x\"")
    ≡ t 0 (str (replicate 253 97 ++ codes "\\x")) ∷ ending 257 = refl in
    let row_lone_backslash_too_long : tokens_of (34 ∷ replicate 254 97 ++ codes "\\x") ≡ t 0 (refused StringTooLong) ∷ [] = refl in
    let row_full_then_line_end : tokens_of (34 ∷ replicate 255 97 ++ 10 ∷ []) ≡ t 0 (refused UnclosedString) ∷ [] = refl in
    let row_greater : tokens ">" ≡ t 0 (refused Reserved) ∷ [] = refl in
    let row_return_in_string : tokens_of (34 ∷ 97 ∷ 13 ∷ []) ≡ t 0 (refused UnclosedString) ∷ [] = refl in
    let row_delete_in_string : tokens_of (34 ∷ 127 ∷ []) ≡ t 1 (refused ControlByte) ∷ [] = refl in
    let row_high_string : tokens_of (34 ∷ 200 ∷ 34 ∷ []) ≡ t 0 (str (200 ∷ [])) ∷ ending 3 = refl in
    let row_vertical_tab_percent : tokens_of (11 ∷ 37 ∷ []) ≡ t 1 (refused StrayByte) ∷ [] = refl in
    let row_lone_brace : tokens "}" ≡ t 0 (refused StrayByte) ∷ [] = refl in
    let row_long_word_before_control : tokens_of (codes "{" ++ replicate 80 119 ++ 1 ∷ [])
    ≡ t 0 comment_open ∷ t 1 (refused WordTooLong) ∷ [] = refl in
    let decided_line_word : decided (codes ";a") ≡ t 0 comment_open ∷ [] = refl in
    let decided_word_ended : decided (codes "{a ") ≡ t 0 comment_open ∷ t 1 (word (codes "a")) ∷ [] = refl in
    let decided_dollar : decided (codes "$") ≡ [] = refl in
    let decided_suffix : decided (codes "!!") ≡ [] = refl in
    let decided_greatest_glyph : decided (codes "$255") ≡ [] = refl in
    tt
