-- **Definition**: what a call does that gives a token which lies in the piece as a whole.
-- Letters: l is a lexer, t a token, m and n are numbers of bytes.
use Rattle.std.specs.Prelude.{◌≡◌, ℕ, ◌+◌, ◌<◌, ◌≤◌, Bool, true, false, IsTrue, IsFalse, List, length, get_or, take, drop, Option, None, Some}
use Rattle.std.specs.List.{list_all}
use Rattle.pgn_lexer.specs.declared.token.Token.{Token as TokenGiven}
use Rattle.pgn_lexer.specs.Bytes.{is_digit, is_space}
use Rattle.pgn_lexer.specs.Scanned.{kind_of, more, token}
use Rattle.pgn_lexer.specs.Standing.{Standing, waiting}
use Rattle.pgn_lexer.specs.Stands.{Scans}
use Rattle.pgn_lexer.specs.Tokens.{Kind, Token, symbol, period}

-- a period, or a symbol of digits
abbrev pub is_passed : Kind → Bool
is_passed (symbol text) = list_all is_digit text
is_passed period = true
is_passed _ = false

-- The first bytes of the piece are white space, and numbers and periods if these are skipped, each
-- as `next` reads it: one byte of white space, behind which no more tokens wait than before, or the
-- bytes up to the end of one token.
pub data Passes (skips_numbers : Bool) (old : Standing) (piece : List ℕ) : Standing → ℕ → Type 0 where
  none : Passes skips_numbers old piece old 0
  over_space : (l new : Standing) (m : ℕ) → Passes skips_numbers old piece l m → m < length piece → IsTrue (is_space (get_or piece m 0))
      → Scans l (take 1 (drop m piece)) new 1 more → waiting new ≤ waiting l → Passes skips_numbers old piece new (m + 1)
  over_token : (l new : Standing) (m n : ℕ) (t : Token) → Passes skips_numbers old piece l m → m < length piece → 0 < n → Scans l (drop m piece) new n (token t)
      → IsTrue skips_numbers → IsTrue (is_passed t.kind) → Passes skips_numbers old piece new (m + n)

-- Behind those comes a token that `next` reads in the rest of the piece. If numbers are skipped,
-- that token is neither a number nor a period.
pub record ReadsBehind (skips_numbers : Bool) (old : Standing) (piece : List ℕ) (new : Standing) (used : ℕ) (t : Token) : Type 0 where
  pub mid : Standing
  pub passed : ℕ
  pub count : ℕ
  pub all : used ≡ passed + count
  pub within : passed < length piece
  pub some : 0 < count
  pub passes : Passes skips_numbers old piece mid passed
  pub reads : Scans mid (drop passed piece) new count (token t)
  pub not_passed : IsTrue skips_numbers → IsFalse (is_passed t.kind)

-- what `whole_token` does
abbrev pub ReadsWhole : Bool → Standing → List ℕ → Standing → ℕ → Option TokenGiven → Type 0
ReadsWhole skips_numbers old piece new used None = Passes skips_numbers old piece new used
ReadsWhole skips_numbers old piece new used (Some t) =
    ReadsBehind skips_numbers old piece new used (record { at = t.at; kind = kind_of t.kind })
