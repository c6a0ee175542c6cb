-- **Definition**: which bytes spell which token, and which are rejected (PGN 5, 6, 7, 10).
use Rattle.std.specs.Prelude.{ℕ, ◌+◌, ◌-◌, ◌*◌, Bool, true, false, ◌||◌, List, [], ◌∷◌, fold, length, nat_lt, nat_le, ◌==◌, if◌then◌else◌}
use Rattle.pgn_lexer.specs.declared.token.LexReason.{LexReason}
use Rattle.pgn_lexer.specs.declared.token.LexReason.TheVariants.{StrayByte, ControlByte, Reserved, SymbolTooLong, StringTooLong, WordTooLong, LoneDollar, GlyphRange, BadSuffix, UnclosedString}
use Rattle.pgn_lexer.specs.Class as singles
use Rattle.pgn_lexer.specs.Class.{Class, Single, LineEnd, Space, Percent, SymbolStart, Quote, Dollar, Suffix, OpenBrace, Semicolon, Alone, Refused}
use Rattle.pgn_lexer.specs.CommentClass.{CommentClass}
use Rattle.pgn_lexer.specs.CommentClass as comment_classes
use Rattle.pgn_lexer.specs.StringClass.{StringClass}
use Rattle.pgn_lexer.specs.StringClass as string_classes
use Rattle.pgn_lexer.specs.Bytes.{is_line_end, is_blank, is_control, starts_symbol, is_suffix, continues_word}
use Rattle.pgn_lexer.specs.Tokens.{Kind, left_bracket, right_bracket, left_paren, right_paren, period, asterisk, symbol, str, glyph, word}

-- What a byte is outside strings and comments: % " $ { ; [ ] ( ) . * < > and the classes (PGN 5, 6,
-- 7, 8.2.3.8).
abbrev pub class : ℕ → Class
class b =
    if starts_symbol b then SymbolStart
    else (if is_line_end b then LineEnd
    else (if is_blank b then Space
    else (if is_suffix b then Suffix
    else (if b == 37 then Percent
    else (if b == 34 then Quote
    else (if b == 36 then Dollar
    else (if b == 123 then OpenBrace
    else (if b == 59 then Semicolon
    else (if b == 91 then Alone singles.LeftBracket
    else (if b == 93 then Alone singles.RightBracket
    else (if b == 40 then Alone singles.LeftParen
    else (if b == 41 then Alone singles.RightParen
    else (if b == 46 then Alone singles.Period
    else (if b == 42 then Alone singles.Asterisk
    else (if (b == 60) || (b == 62) then Refused Reserved
    else (if is_control b then Refused ControlByte
    else Refused StrayByte))))))))))))))))

-- the token of one byte (PGN 7)
abbrev pub kind_of_single : Single → Kind
kind_of_single singles.LeftBracket = left_bracket
kind_of_single singles.RightBracket = right_bracket
kind_of_single singles.LeftParen = left_paren
kind_of_single singles.RightParen = right_paren
kind_of_single singles.Period = period
kind_of_single singles.Asterisk = asterisk

-- what a byte is in a comment: } and the classes (PGN 5)
abbrev pub comment_class : ℕ → CommentClass
comment_class b =
    if continues_word b then comment_classes.WordByte
    else (if is_line_end b then comment_classes.LineEnd
    else (if is_blank b then comment_classes.Space
    else (if b == 125 then comment_classes.CloseBrace
    else comment_classes.Control)))

-- what a byte is in a string: " and \ and the classes (PGN 7)
abbrev pub string_class : ℕ → StringClass
string_class b =
    if b == 34 then string_classes.Quote
    else (if b == 92 then string_classes.Backslash
    else (if is_line_end b then string_classes.LineEnd
    else (if nat_le b 31 || (b == 127) then string_classes.Control
    else string_classes.Plain)))

-- What begins at a byte: nothing, a token, or the error at which the tokens stop, with its place.
pub data Found : Type 0 where
  nothing : Found
  gives : Kind → Found
  stops : ℕ → LexReason → Found

-- a symbol is the longest run of its bytes; more than 255 are rejected (PGN 7)
abbrev pub symbol_at : ℕ → List ℕ → Found
symbol_at at run = if nat_le (length run) 255 then gives (symbol run) else stops at SymbolTooLong

-- a word of a comment has at most 79 bytes, the length of a line of an export (PGN 8.2.1)
abbrev pub word_at : ℕ → List ℕ → Found
word_at at run = if nat_le (length run) 79 then gives (word run) else stops at WordTooLong

-- the number that digits go on to from n, and the one that they spell
abbrev pub number_from : ℕ → List ℕ → ℕ
number_from n ds = fold (λ n d. 10 * n + (d - 48)) n ds

abbrev pub number_of : List ℕ → ℕ
number_of ds = number_from 0 ds

abbrev pub numbered_at : ℕ → ℕ → Found
numbered_at at n = if nat_le n 255 then gives (glyph n) else stops at GlyphRange

-- A NAG has the longest run of digits after its dollar sign (PGN 7), and is at most 255 (PGN
-- 8.2.4). Leading zeros are accepted by our choice.
abbrev pub glyph_at : ℕ → List ℕ → Found
glyph_at at [] = stops at LoneDollar
glyph_at at (d ∷ ds) = numbered_at at (number_of (d ∷ ds))

-- ! ? !! ?? !? ?! are the NAGs 1 to 6 (PGN 8.2.3.8, 10)
abbrev pub suffix_at : ℕ → List ℕ → Found
suffix_at at (a ∷ []) = if a == 33 then gives (glyph 1) else gives (glyph 2)
suffix_at at (a ∷ b ∷ []) =
    if a == 33 then (if b == 33 then gives (glyph 3) else gives (glyph 5))
    else (if b == 33 then gives (glyph 6) else gives (glyph 4))
suffix_at at _ = stops at BadSuffix

-- The result of reading a string after its opening quote: its data, or an error with its place.
pub data Reading : Type 0 where
  closed : List ℕ → Reading
  broken : ℕ → LexReason → Reading

-- one datum more at the front
abbrev pub datum : ℕ → Reading → Reading
datum b (closed text) = closed (b ∷ text)
datum b (broken at reason) = broken at reason

-- A string that began at `start`, after n data, at the place `at`; `escaped` says that a backslash
-- is just before. A backslash makes the quote or backslash after it a datum (PGN 7). Before another
-- byte it is, by our choice, a datum itself.
abbrev pub reading : ℕ → ℕ → ℕ → Bool → List ℕ → Reading
reading start at n escaped [] = broken start UnclosedString
reading start at n false (b ∷ bs) =
    elim (string_class b) [
      | string_classes.Quote ↦ closed []
      | string_classes.LineEnd ↦ broken start UnclosedString
      | string_classes.Control ↦ broken at ControlByte
      | string_classes.Backslash ↦ elim (nat_lt n 255) [ true ↦ reading start (at + 1) n true bs | false ↦ broken start StringTooLong ]
      | string_classes.Plain ↦ elim (nat_lt n 255) [ true ↦ datum b (reading start (at + 1) (n + 1) false bs) | false ↦ broken start StringTooLong ]
    ]
reading start at n true (b ∷ bs) =
    elim (string_class b) [
      | string_classes.Quote ↦ datum b (reading start (at + 1) (n + 1) false bs)
      | string_classes.LineEnd ↦ broken start UnclosedString
      | string_classes.Control ↦ broken at ControlByte
      | string_classes.Backslash ↦ datum b (reading start (at + 1) (n + 1) false bs)
      | string_classes.Plain ↦ elim (nat_lt n 254) [ true ↦ datum 92 (datum b (reading start (at + 1) (n + 2) false bs)) | false ↦ broken start StringTooLong ]
    ]

abbrev pub string_at : Reading → Found
string_at (closed text) = gives (str text)
string_at (broken at reason) = stops at reason
