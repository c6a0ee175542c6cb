-- **Definition**: how a text is cut into white space, escape lines and tokens (PGN 5, 6, 7, 10).
-- These are the rules themselves, on whole runs of bytes.
use Rattle.std.specs.Prelude.{◌≡◌, ℕ, ◌+◌, ◌<◌, ◌≤◌, IsTrue, IsFalse, Bool, true, false, not, ◌||◌, nat_le, List, [], ◌∷◌, ◌++◌, length, ◌==◌, codes}
use Rattle.std.specs.List.{list_all}
use Rattle.pgn_lexer.specs.declared.token.LexReason.{LexReason}
use Rattle.pgn_lexer.specs.declared.token.LexReason.TheVariants.{StrayByte, ControlByte, Reserved, SymbolTooLong, StringTooLong, WordTooLong, LoneDollar, GlyphRange, BadSuffix, BraceInLineComment, UnclosedString, UnclosedComment}
use Rattle.pgn_lexer.specs.Bytes.{is_line_end, is_blank, is_space, is_control, is_digit, starts_symbol, continues_symbol, is_suffix, continues_word}
use Rattle.pgn_lexer.specs.Tokens as tokens
use Rattle.pgn_lexer.specs.Tokens.{Kind, Token}
use Rattle.pgn_lexer.specs.Spelling.{number_of}
use Rattle.pgn_lexer.specs.TokensOf.{has_mark}

-- the text does not begin with such a byte
abbrev pub StopsAt : (ℕ → Bool) → List ℕ → Type 0
StopsAt p [] = Unit {0}
StopsAt p (b ∷ bs) = IsFalse (p b)

-- the text ends, or a line end is next
abbrev pub IsAtLineEnd : List ℕ → Type 0
IsAtLineEnd [] = Unit {0}
IsAtLineEnd (b ∷ bs) = IsTrue (is_line_end b)

-- a run of such bytes before s, as long as possible
abbrev pub IsRun : (ℕ → Bool) → List ℕ → List ℕ → Type 0
IsRun p run s = IsTrue (list_all p run) × StopsAt p s

-- a quote (34) or a backslash (92), which data have a backslash before
abbrev pub is_escaped : ℕ → Bool
is_escaped b = (b == 34) || (b == 92)

-- a byte that no string has: below 32, or 127
abbrev pub is_barred : ℕ → Bool
is_barred b = nat_le b 31 || (b == 127)

-- a byte that means itself in a string
abbrev pub is_plain : ℕ → Bool
is_plain b = not (is_barred b || is_escaped b)

-- How the data of a string are written before s. Each quote and backslash has a backslash before it
-- (PGN 7). By our choice, a backslash before any other byte stands for itself.
pub data Data : List ℕ → List ℕ → List ℕ → Type 0 where
  no_data : (s : List ℕ) → Data [] [] s
  plain : (b : ℕ) (raw text s : List ℕ) → IsTrue (is_plain b) → Data raw text s → Data (b ∷ raw) (b ∷ text) s
  escaped : (b : ℕ) (raw text s : List ℕ) → IsTrue (is_escaped b) → Data raw text s → Data (codes "\\" ++ b ∷ raw) (b ∷ text) s
  lone : (raw text s : List ℕ) → StopsAt is_escaped (raw ++ s) → Data raw text s → Data (codes "\\" ++ raw) (codes "\\" ++ text) s

-- the tokens of one byte (PGN 7): [ ] ( ) . *
pub data IsSingle : ℕ → Kind → Type 0 where
  left_bracket : IsSingle 91 tokens.left_bracket
  right_bracket : IsSingle 93 tokens.right_bracket
  left_paren : IsSingle 40 tokens.left_paren
  right_paren : IsSingle 41 tokens.right_paren
  period : IsSingle 46 tokens.period
  asterisk : IsSingle 42 tokens.asterisk

-- the NAGs of the suffixes (PGN 8.2.3.8, 10)
pub data IsSuffix : List ℕ → ℕ → Type 0 where
  good : IsSuffix (codes "!") 1
  poor : IsSuffix (codes "?") 2
  very_good : IsSuffix (codes "!!") 3
  very_poor : IsSuffix (codes "??") 4
  speculative : IsSuffix (codes "!?") 5
  questionable : IsSuffix (codes "?!") 6

-- The run, before s, spells the token (PGN 7): a symbol; data within quotes; $ and digits; a
-- suffix; one byte.
pub data SpellsToken : List ℕ → List ℕ → Kind → Type 0 where
  symbol : (b : ℕ) (run s : List ℕ) → IsTrue (starts_symbol b) → IsRun continues_symbol run s → length (b ∷ run) ≤ 255
      → SpellsToken (b ∷ run) s (tokens.symbol (b ∷ run))
  string : (raw text s : List ℕ) → Data raw text (codes "\"" ++ s) → length text ≤ 255 → SpellsToken (codes "\"" ++ raw ++ codes "\"") s (tokens.str text)
  glyph : (d : ℕ) (ds s : List ℕ) → IsTrue (is_digit d) → IsRun is_digit ds s → number_of (d ∷ ds) ≤ 255 → SpellsToken (codes "$" ++ d ∷ ds) s (tokens.glyph (number_of (d ∷ ds)))
  suffix : (run s : List ℕ) (n : ℕ) → IsSuffix run n → StopsAt is_suffix s → SpellsToken run s (tokens.glyph n)
  single : (b : ℕ) (s : List ℕ) (k : Kind) → IsSingle b k → SpellsToken (b ∷ []) s k

-- a byte that begins nothing: no class, and none of % " $ { ; [ ] ( ) . * < >
abbrev pub is_stray : ℕ → Bool
is_stray b =
    not (starts_symbol b || is_line_end b || is_blank b || is_suffix b || (b == 37) || (b == 34) || (b == 36) || (b == 123) || (b == 59)
    || (b == 91) || (b == 93) || (b == 40) || (b == 41) || (b == 46) || (b == 42) || ((b == 60) || (b == 62)) || is_control b)

-- The text is rejected, so many bytes further on. A } in a comment to the end of its line is
-- rejected by our choice.
pub data Refuses : List ℕ → ℕ → LexReason → Type 0 where
  stray : (b : ℕ) (s : List ℕ) → IsTrue (is_stray b) → Refuses (b ∷ s) 0 StrayByte
  control_byte : (b : ℕ) (s : List ℕ) → IsTrue (is_control b) → Refuses (b ∷ s) 0 ControlByte
  reserved : (b : ℕ) (s : List ℕ) → IsTrue ((b == 60) || (b == 62)) → Refuses (b ∷ s) 0 Reserved
  long_symbol : (b : ℕ) (run s : List ℕ) → IsTrue (starts_symbol b) → IsRun continues_symbol run s → 255 < length (b ∷ run)
      → Refuses (b ∷ (run ++ s)) 0 SymbolTooLong
  long_string : (b : ℕ) (raw text s : List ℕ) → Data raw text (b ∷ s) → length text ≡ 255 → IsTrue (is_plain b || (b == 92))
      → Refuses (codes "\"" ++ raw ++ b ∷ s) 0 StringTooLong
  control_in_string : (b : ℕ) (raw text s : List ℕ) → Data raw text (b ∷ s) → length text ≤ 255 → IsTrue (is_barred b) → IsFalse (is_line_end b)
      → Refuses (codes "\"" ++ raw ++ b ∷ s) (1 + length raw) ControlByte
  open_string : (raw text s : List ℕ) → Data raw text s → length text ≤ 255 → IsAtLineEnd s → Refuses (codes "\"" ++ raw ++ s) 0 UnclosedString
  lone_dollar : (s : List ℕ) → StopsAt is_digit s → Refuses (codes "$" ++ s) 0 LoneDollar
  large_glyph : (d : ℕ) (ds s : List ℕ) → IsTrue (is_digit d) → IsRun is_digit ds s → 255 < number_of (d ∷ ds) → Refuses (codes "$" ++ d ∷ ds ++ s) 0 GlyphRange
  bad_suffix : (run s : List ℕ) → IsRun is_suffix run s → 2 < length run → Refuses (run ++ s) 0 BadSuffix

-- What a byte is inside of. Outside strings and comments: whether it is in the first column. In a
-- comment: whether that has braces, or goes to the end of its line.
pub data Where : Type 0 where
  outside : Bool → Where
  comment : Bool → Where

-- the tokens of a text from a place on (PGN 5, 6, 7)
pub data Cuts : Where → ℕ → List ℕ → List Token → Type 0 where
  ends : (first : Bool) (at : ℕ) → Cuts (outside first) at [] (record { at = at; kind = tokens.end } ∷ [])
  space : (first : Bool) (at b : ℕ) (s : List ℕ) (ts : List Token) → IsTrue (is_space b) → Cuts (outside (is_line_end b)) (at + 1) s ts
      → Cuts (outside first) at (b ∷ s) ts
  escape_line : (at : ℕ) (run s : List ℕ) (ts : List Token) → IsRun (λ b. not (is_line_end b)) run s → Cuts (outside false) (at + 1 + length run) s ts
      → Cuts (outside true) at (codes "%" ++ run ++ s) ts
  stray_percent : (at : ℕ) (s : List ℕ) → Cuts (outside false) at (codes "%" ++ s) (record { at = at; kind = tokens.refused StrayByte } ∷ [])
  token : (first : Bool) (at : ℕ) (run s : List ℕ) (k : Kind) (ts : List Token) → SpellsToken run s k → Cuts (outside false) (at + length run) s ts
      → Cuts (outside first) at (run ++ s) (record { at = at; kind = k } ∷ ts)
  refuses : (first : Bool) (at n : ℕ) (s : List ℕ) (r : LexReason) → Refuses s n r → Cuts (outside first) at s (record { at = at + n; kind = tokens.refused r } ∷ [])
  opens_brace : (first : Bool) (at : ℕ) (s : List ℕ) (ts : List Token) → Cuts (comment true) (at + 1) s ts
      → Cuts (outside first) at (codes "{" ++ s) (record { at = at; kind = tokens.comment_open } ∷ ts)
  opens_line : (first : Bool) (at : ℕ) (s : List ℕ) (ts : List Token) → Cuts (comment false) (at + 1) s ts
      → Cuts (outside first) at (codes ";" ++ s) (record { at = at; kind = tokens.comment_open } ∷ ts)
  open_at_end : (at : ℕ) → Cuts (comment true) at [] (record { at = at; kind = tokens.refused UnclosedComment } ∷ [])
  closed_at_end : (at : ℕ) → Cuts (comment false) at [] (record { at = at; kind = tokens.comment_close } ∷ record { at = at; kind = tokens.end } ∷ [])
  between_words : (braces : Bool) (at b : ℕ) (s : List ℕ) (ts : List Token) → IsTrue (is_space b) → IsTrue (braces || not (is_line_end b))
      → Cuts (comment braces) (at + 1) s ts → Cuts (comment braces) at (b ∷ s) ts
  word : (braces : Bool) (at b : ℕ) (run s : List ℕ) (ts : List Token) → IsTrue (continues_word b) → IsRun continues_word run s → length (b ∷ run) ≤ 79
      → Cuts (comment braces) (at + 1 + length run) s ts → Cuts (comment braces) at (b ∷ (run ++ s)) (record { at = at; kind = tokens.word (b ∷ run) } ∷ ts)
  long_word : (braces : Bool) (at b : ℕ) (run s : List ℕ) → IsTrue (continues_word b) → IsRun continues_word run s → 79 < length (b ∷ run)
      → Cuts (comment braces) at (b ∷ (run ++ s)) (record { at = at; kind = tokens.refused WordTooLong } ∷ [])
  control_in_comment : (braces : Bool) (at b : ℕ) (s : List ℕ) → IsTrue (is_control b) → Cuts (comment braces) at (b ∷ s) (record { at = at; kind = tokens.refused ControlByte } ∷ [])
  closes_brace : (at : ℕ) (s : List ℕ) (ts : List Token) → Cuts (outside false) (at + 1) s ts → Cuts (comment true) at (codes "}" ++ s) (record { at = at; kind = tokens.comment_close } ∷ ts)
  brace_in_line : (at : ℕ) (s : List ℕ) → Cuts (comment false) at (codes "}" ++ s) (record { at = at; kind = tokens.refused BraceInLineComment } ∷ [])
  closes_line : (at b : ℕ) (s : List ℕ) (ts : List Token) → IsTrue (is_line_end b) → Cuts (outside true) (at + 1) s ts
      → Cuts (comment false) at (b ∷ s) (record { at = at; kind = tokens.comment_close } ∷ ts)

-- a byte order mark, EF BB BF, at the start is skipped, and counted in places (our choice)
pub data Lexes : List ℕ → List Token → Type 0 where
  marked : (s : List ℕ) (ts : List Token) → Cuts (outside true) 3 s ts → Lexes (239 ∷ 187 ∷ 191 ∷ s) ts
  unmarked : (s : List ℕ) (ts : List Token) → IsFalse (has_mark s) → Cuts (outside true) 0 s ts → Lexes s ts
