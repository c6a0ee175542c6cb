-- **Definition**: tokens with their places (PGN 5, 7, 8.2.3.8, 8.2.4).
use Rattle.std.specs.Prelude.{◌≡◌, ℕ, ◌+◌, ◌<◌, ◌≤◌, List, length, Bool, true, false}
use Rattle.pgn_lexer.specs.declared.token.LexReason.{LexReason}

-- What is at a place of a text: a token with its text, the end of the text, or the error at which
-- its tokens stop.
pub data Kind : Type 0 where
  left_bracket : Kind
  right_bracket : Kind
  left_paren : Kind
  right_paren : Kind
  period : Kind
  asterisk : Kind
  symbol : List ℕ → Kind
  str : List ℕ → Kind
  glyph : ℕ → Kind
  comment_open : Kind
  word : List ℕ → Kind
  comment_close : Kind
  end : Kind
  refused : LexReason → Kind

-- How long the text of a token is: a symbol has 1 to 255 bytes, a string at most 255 data, a word 1
-- to 79 bytes; and a NAG is at most 255.
abbrev pub HasLength : Kind → Type 0
HasLength (symbol text) = (0 < length text) × (length text ≤ 255)
HasLength (str text) = length text ≤ 255
HasLength (glyph n) = n ≤ 255
HasLength (word text) = (0 < length text) × (length text ≤ 79)
HasLength _ = Unit {0}

-- The place just after the last byte of a token. The data of a string and the number of a NAG don't
-- say how many bytes they were written with.
abbrev pub EndsAt : Kind → ℕ → ℕ → Type 0
EndsAt (symbol text) at behind = behind ≡ at + length text
EndsAt (word text) at behind = behind ≡ at + length text
EndsAt (str text) at behind = at < behind
EndsAt (glyph n) at behind = at < behind
EndsAt _ at behind = behind ≡ at + 1

-- a token that ends only before a byte that it cannot have, so that this byte shows its end
abbrev pub is_run : Kind → Bool
is_run (symbol text) = true
is_run (glyph n) = true
is_run (word text) = true
is_run _ = false

pub record Token : Type 0 where
  pub at : ℕ
  pub kind : Kind
