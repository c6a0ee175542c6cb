-- **Definition**: the tokens of a whole text, computed place by place (PGN 5, 6, 7).
use Rattle.std.specs.Prelude.{ℕ, ◌+◌, Bool, true, false, ◌&&◌, drop, List, [], ◌∷◌, take_while, ◌==◌, if◌then◌else◌}
use Rattle.pgn_lexer.specs.declared.token.LexReason.TheVariants.{StrayByte, ControlByte, BraceInLineComment, UnclosedComment}
use Rattle.pgn_lexer.specs.Class.{Class, LineEnd, Space, Percent, SymbolStart, Quote, Dollar, Suffix, OpenBrace, Semicolon, Alone, Refused}
use Rattle.pgn_lexer.specs.CommentClass.{CommentClass}
use Rattle.pgn_lexer.specs.CommentClass as comment_classes
use Rattle.pgn_lexer.specs.StringClass.{StringClass}
use Rattle.pgn_lexer.specs.StringClass as string_classes
use Rattle.pgn_lexer.specs.Bytes.{is_line_end, is_digit, continues_symbol, is_suffix, continues_word}
use Rattle.pgn_lexer.specs.Tokens.{Token, comment_open, comment_close, end, refused}
use Rattle.pgn_lexer.specs.Spelling.{class, kind_of_single, comment_class, string_class, Found, nothing, gives, stops, symbol_at, word_at, glyph_at, suffix_at, reading, string_at}

-- What a place is inside of, by the bytes before it.
pub data Within : Type 0 where
  column : Within
  outside : Within
  in_escape_line : Within
  in_symbol : Within
  in_glyph : Within
  in_suffix : Within
  quotes : Within
  backslash : Within
  brace : Within
  brace_word : Within
  line : Within
  line_word : Within

-- after a byte outside strings and comments
abbrev pub after_class : Class → Within
after_class LineEnd = column
after_class SymbolStart = in_symbol
after_class Quote = quotes
after_class Dollar = in_glyph
after_class Suffix = in_suffix
after_class OpenBrace = brace
after_class Semicolon = line
after_class _ = outside

-- in the first column a percent sign begins an escape line (PGN 6)
abbrev pub after_first : Class → Within
after_first Percent = in_escape_line
after_first c = after_class c

abbrev pub after_brace : CommentClass → Within
after_brace comment_classes.CloseBrace = outside
after_brace comment_classes.WordByte = brace_word
after_brace _ = brace

abbrev pub after_line : CommentClass → Within
after_line comment_classes.LineEnd = column
after_line comment_classes.WordByte = line_word
after_line _ = line

abbrev pub after_quoted : StringClass → Within
after_quoted string_classes.Quote = outside
after_quoted string_classes.Backslash = backslash
after_quoted _ = quotes

-- what a place is inside of, if a run of a symbol, a NAG or a suffix continues there, or not
abbrev pub after_run : Bool → Within → Class → Within
after_run true within c = within
after_run false within c = after_class c

-- the next place
abbrev pub next : Within → ℕ → Within
next column b = after_first (class b)
next outside b = after_class (class b)
next in_escape_line b = if is_line_end b then column else in_escape_line
next in_symbol b = after_run (continues_symbol b) in_symbol (class b)
next in_glyph b = after_run (is_digit b) in_glyph (class b)
next in_suffix b = after_run (is_suffix b) in_suffix (class b)
next quotes b = after_quoted (string_class b)
next backslash b = quotes
next brace b = after_brace (comment_class b)
next brace_word b = after_brace (comment_class b)
next line b = after_line (comment_class b)
next line_word b = after_line (comment_class b)

-- what begins at a byte outside strings and comments, before the bytes bs
abbrev pub begins_class : ℕ → Class → ℕ → List ℕ → Found
begins_class at LineEnd b bs = nothing
begins_class at Space b bs = nothing
begins_class at Percent b bs = stops at StrayByte
begins_class at SymbolStart b bs = symbol_at at (b ∷ take_while continues_symbol bs)
begins_class at Quote b bs = string_at (reading at (at + 1) 0 false bs)
begins_class at Dollar b bs = glyph_at at (take_while is_digit bs)
begins_class at Suffix b bs = suffix_at at (b ∷ take_while is_suffix bs)
begins_class at OpenBrace b bs = gives comment_open
begins_class at Semicolon b bs = gives comment_open
begins_class at (Alone s) b bs = gives (kind_of_single s)
begins_class at (Refused r) b bs = stops at r

abbrev pub begins_first : ℕ → Class → ℕ → List ℕ → Found
begins_first at Percent b bs = nothing
begins_first at c b bs = begins_class at c b bs

-- nothing begins at a place where a run continues
abbrev pub begins_after : Bool → ℕ → Class → ℕ → List ℕ → Found
begins_after true at c b bs = nothing
begins_after false at c b bs = begins_class at c b bs

-- a word begins only if none continues there
abbrev pub begins_word : ℕ → Bool → ℕ → List ℕ → Found
begins_word at true b bs = nothing
begins_word at false b bs = word_at at (b ∷ take_while continues_word bs)

abbrev pub begins_brace : ℕ → Bool → CommentClass → ℕ → List ℕ → Found
begins_brace at goes comment_classes.LineEnd b bs = nothing
begins_brace at goes comment_classes.Space b bs = nothing
begins_brace at goes comment_classes.CloseBrace b bs = gives comment_close
begins_brace at goes comment_classes.WordByte b bs = begins_word at goes b bs
begins_brace at goes comment_classes.Control b bs = stops at ControlByte

abbrev pub begins_line : ℕ → Bool → CommentClass → ℕ → List ℕ → Found
begins_line at goes comment_classes.LineEnd b bs = gives comment_close
begins_line at goes comment_classes.Space b bs = nothing
begins_line at goes comment_classes.CloseBrace b bs = stops at BraceInLineComment
begins_line at goes comment_classes.WordByte b bs = begins_word at goes b bs
begins_line at goes comment_classes.Control b bs = stops at ControlByte

-- what begins at a byte
abbrev pub begins : ℕ → Within → ℕ → List ℕ → Found
begins at column b bs = begins_first at (class b) b bs
begins at outside b bs = begins_class at (class b) b bs
begins at in_escape_line b bs = nothing
begins at in_symbol b bs = begins_after (continues_symbol b) at (class b) b bs
begins at in_glyph b bs = begins_after (is_digit b) at (class b) b bs
begins at in_suffix b bs = begins_after (is_suffix b) at (class b) b bs
begins at quotes b bs = nothing
begins at backslash b bs = nothing
begins at brace b bs = begins_brace at false (comment_class b) b bs
begins at brace_word b bs = begins_brace at true (comment_class b) b bs
begins at line b bs = begins_line at false (comment_class b) b bs
begins at line_word b bs = begins_line at true (comment_class b) b bs

-- nothing, a token, or an error, before the tokens that follow
abbrev pub onto : ℕ → Found → List Token → List Token
onto at nothing ts = ts
onto at (gives k) ts = record { at = at; kind = k } ∷ ts
onto at (stops place reason) ts = record { at = place; kind = refused reason } ∷ []

-- the end of the text also ends a comment that goes to the end of its line
abbrev pub at_end : ℕ → Within → List Token
at_end at brace = record { at = at; kind = refused UnclosedComment } ∷ []
at_end at brace_word = record { at = at; kind = refused UnclosedComment } ∷ []
at_end at line = record { at = at; kind = comment_close } ∷ record { at = at; kind = end } ∷ []
at_end at line_word = record { at = at; kind = comment_close } ∷ record { at = at; kind = end } ∷ []
at_end at _ = record { at = at; kind = end } ∷ []

-- The tokens that begin at each place, in order, up to the first error.
abbrev pub tokens_from : ℕ → Within → List ℕ → List Token
tokens_from at within [] = at_end at within
tokens_from at within (b ∷ bs) = onto at (begins at within b bs) (tokens_from (at + 1) (next within b) bs)

-- the text begins with a byte order mark, EF BB BF
abbrev pub has_mark : List ℕ → Bool
has_mark (a ∷ b ∷ c ∷ s) = (a == 239) && (b == 187) && (c == 191)
has_mark _ = false

-- The tokens of a whole text. A byte order mark at its start is skipped, and counted in places, by
-- our choice.
abbrev pub tokens_of : List ℕ → List Token
tokens_of s = elim (has_mark s) [ true ↦ tokens_from 3 column (drop 3 s) | false ↦ tokens_from 0 column s ]
