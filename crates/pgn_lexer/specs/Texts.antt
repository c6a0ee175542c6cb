-- **Bookkeeping**: the tokens whose bytes are stored, and those of one byte.
use Rattle.std.specs.Prelude.{◌≡◌, ℕ, ◌+◌, ◌-◌, ◌*◌, ◌<◌, nat_le, Option, None, Some, true, List, length, get_or, ◌==◌, if◌then◌else◌}
use Rattle.pgn_lexer.specs.declared.class.Set.{Set}
use Rattle.pgn_lexer.specs.declared.class.Set.TheVariants as sets
use Rattle.pgn_lexer.specs.declared.partial_token.LexMode.{LexMode}
use Rattle.pgn_lexer.specs.declared.partial_token.LexMode.TheVariants as modes
use Rattle.pgn_lexer.specs.declared.partial_token.Sign.{Sign}
use Rattle.pgn_lexer.specs.declared.partial_token.Sign.TheVariants as signs
use Rattle.pgn_lexer.specs.declared.partial_token.Text.{Text}
use Rattle.pgn_lexer.specs.declared.partial_token.Text.TheVariants.{Symbol, Str, Suffix, Word}
use Rattle.pgn_lexer.specs.declared.token.LexReason.{LexReason}
use Rattle.pgn_lexer.specs.declared.token.LexReason.TheVariants.{SymbolTooLong, StringTooLong, WordTooLong, BadSuffix}
use Rattle.pgn_lexer.specs.Comments.{between, in_word}
use Rattle.pgn_lexer.specs.Lexes.{is_escaped}
use Rattle.pgn_lexer.specs.Spelling.{Found, nothing, symbol_at, word_at, suffix_at}
use Rattle.pgn_lexer.specs.Tokens.{Kind, left_bracket, right_bracket, left_paren, right_paren, period, asterisk, symbol, str, glyph, comment_open, word, comment_close}
use Rattle.pgn_lexer.specs.TokensOf.{Within, in_symbol, in_suffix, outside, quotes}

-- the bytes that continue it
abbrev pub bytes_of : Text → Set
bytes_of Symbol = sets.Symbol
bytes_of Str = sets.Data
bytes_of Suffix = sets.Suffix
bytes_of (Word close) = sets.Word

abbrev pub longest_of : Text → ℕ
longest_of Symbol = 255
longest_of Str = 255
longest_of Suffix = 2
longest_of (Word close) = 79

-- why a longer one is rejected
abbrev pub too_long_of : Text → LexReason
too_long_of Symbol = SymbolTooLong
too_long_of Str = StringTooLong
too_long_of Suffix = BadSuffix
too_long_of (Word close) = WordTooLong

-- the glyph of a suffix of one or two bytes; 33 is `!`
abbrev pub glyph_of : List ℕ → ℕ
glyph_of text =
    if length text == 1 then (if get_or text 0 0 == 33 then 1 else 2)
    else (if get_or text 0 0 == 33 then (if get_or text 1 0 == 33 then 3 else 5)
    else (if get_or text 1 0 == 33 then 6 else 4))

-- the number of a glyph with one digit more, if that is one; a digit is its byte less 48
abbrev pub longer_number : ℕ → ℕ → Option ℕ
longer_number n b = if nat_le (10 * n + (b - 48)) 255 then Some (10 * n + (b - 48)) else None

abbrev pub kind_of_text : Text → List ℕ → Kind
kind_of_text Symbol text = symbol text
kind_of_text Str text = str text
kind_of_text Suffix text = glyph (glyph_of text)
kind_of_text (Word close) text = word text

abbrev pub kind_of_sign : Sign → Kind
kind_of_sign signs.LeftBracket = left_bracket
kind_of_sign signs.RightBracket = right_bracket
kind_of_sign signs.LeftParen = left_paren
kind_of_sign signs.RightParen = right_paren
kind_of_sign signs.Period = period
kind_of_sign signs.Asterisk = asterisk
kind_of_sign signs.CommentOpen = comment_open
kind_of_sign signs.CommentClose = comment_close

-- what its bytes, if it is no string, come to
abbrev pub found_of : Text → ℕ → List ℕ → Found
found_of Symbol at run = symbol_at at run
found_of Str at run = nothing
found_of Suffix at run = suffix_at at run
found_of (Word close) at run = word_at at run

-- what a byte in it is inside of, and one behind it
abbrev pub within_of : Text → Within
within_of Symbol = in_symbol
within_of Str = quotes
within_of Suffix = in_suffix
within_of (Word close) = in_word close

abbrev pub within_behind : Text → Within
within_behind (Word close) = between close
within_behind _ = outside

abbrev pub mode_behind : Text → LexMode
mode_behind (Word close) = modes.Comment close
mode_behind _ = modes.Outside

-- a backslash before a byte that it escapes, in a string
pub record BeginsWithEscape (text : Text) (bytes : List ℕ) : Type 0 where
  pub string : text ≡ Str
  pub long : 1 < length bytes
  pub backslash : get_or bytes 0 0 ≡ 92
  pub escaped : is_escaped (get_or bytes 1 0) ≡ true
