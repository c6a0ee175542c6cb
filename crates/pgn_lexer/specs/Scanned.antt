-- **Definition**: what a call returned, its text a list of bytes.
use Rattle.std.specs.Prelude.{ℕ, Option, None, Some}
use Rattle.pgn_lexer.specs.declared.token.LexFault.{LexFault}
use Rattle.pgn_lexer.specs.declared.token.TokenKind.{TokenKind}
use Rattle.pgn_lexer.specs.declared.token.TokenKind.TheVariants as token_kinds
use Rattle.pgn_lexer.specs.declared.token.Outcome.{Outcome}
use Rattle.pgn_lexer.specs.declared.token.Outcome.TheVariants as outcomes
use Rattle.pgn_lexer.specs.Tokens.{Kind, Token, EndsAt, HasLength, left_bracket, right_bracket, left_paren, right_paren, period, asterisk, symbol, str, glyph, comment_open, word, comment_close, end}

abbrev pub kind_of : TokenKind → Kind
kind_of token_kinds.LeftBracket = left_bracket
kind_of token_kinds.RightBracket = right_bracket
kind_of token_kinds.LeftParen = left_paren
kind_of token_kinds.RightParen = right_paren
kind_of token_kinds.Period = period
kind_of token_kinds.Asterisk = asterisk
kind_of (token_kinds.Symbol text) = symbol text.now
kind_of (token_kinds.Str text) = str text.now
kind_of (token_kinds.Glyph n) = glyph n
kind_of token_kinds.CommentOpen = comment_open
kind_of (token_kinds.Word text) = word text.now
kind_of token_kinds.CommentClose = comment_close
kind_of token_kinds.End = end

-- nothing, a token, or an error
pub data Scanned : Type 0 where
  more : Scanned
  token : Token → Scanned
  fault : LexFault → Scanned

abbrev pub scanned : Outcome → Scanned
scanned outcomes.NeedMore = more
scanned (outcomes.Token t) = token (record { at = t.at; kind = kind_of t.kind })
scanned (outcomes.Fault f) = fault f

-- a token that is given has its length
abbrev pub HasLengthIn : Scanned → Type 0
HasLengthIn more = Unit {0}
HasLengthIn (token t) = HasLength t.kind
HasLengthIn (fault f) = Unit {0}

-- the token that is given ends at the place
abbrev pub EndsIn : Scanned → ℕ → Type 0
EndsIn more place = Unit {0}
EndsIn (token t) place = EndsAt t.kind t.at place
EndsIn (fault f) place = Unit {0}

-- the error, if it is one
abbrev pub fault_in : Scanned → Option LexFault
fault_in more = None
fault_in (token t) = None
fault_in (fault f) = Some f
