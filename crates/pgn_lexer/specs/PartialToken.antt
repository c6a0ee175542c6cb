-- **Bookkeeping**: what a lexer holds of the current token, and the tokens that it still gives.
-- Letters: h is what is held, s the bytes that come. `place` is the number of bytes used, `at` the
-- place of the current token, `text` its bytes so far. 239 187 191 is the byte order mark EF BB BF.
use Rattle.std.specs.Prelude.{◌≡◌, ℕ, ◌+◌, ◌-◌, ◌<◌, ◌≤◌, true, false, List, [], ◌∷◌, ◌++◌, take, take_while, length}
use Rattle.pgn_lexer.specs.declared.token.LexFault.{LexFault}
use Rattle.pgn_lexer.specs.declared.token.LexReason.{LexReason}
use Rattle.pgn_lexer.specs.declared.partial_token.LexMode.{LexMode}
use Rattle.pgn_lexer.specs.declared.partial_token.LexMode.TheVariants.{Start, AfterEf, AfterEfBb, LineStart, Outside, EscapeLine, Text, AfterBackslash, Dollar, Glyph, Comment, Failed}
use Rattle.pgn_lexer.specs.declared.partial_token.CommentEnd.TheVariants as closes
use Rattle.pgn_lexer.specs.declared.partial_token.Text.TheVariants as texts
use Rattle.pgn_lexer.specs.declared.partial_token.TokenForm.{TokenForm}
use Rattle.pgn_lexer.specs.declared.partial_token.TokenForm.TheVariants as token_forms
use Rattle.pgn_lexer.specs.Bytes.{is_digit}
use Rattle.pgn_lexer.specs.Tokens.{Kind, Token, glyph, refused}
use Rattle.pgn_lexer.specs.Comments.{between}
use Rattle.pgn_lexer.specs.Sets.{is_in}
use Rattle.pgn_lexer.specs.Texts.{bytes_of, found_of, kind_of_sign, kind_of_text, longest_of, within_of}
use Rattle.pgn_lexer.specs.Spelling.{Reading, closed, broken, reading, number_from, glyph_at, numbered_at, string_at}
use Rattle.pgn_lexer.specs.TokensOf.{column, outside, in_escape_line, in_glyph, quotes, backslash, onto, tokens_from, tokens_of}

-- where the partial token began, and what was read of it
pub record PartialToken : Type 0 where
  pub mode : LexMode
  pub at : ℕ
  pub text : List ℕ

-- the rejection, in the place of a token
abbrev pub refusal : LexFault → Token
refusal f = record { at = f.at; kind = refused f.reason }

-- the token of a form, at its place with its text
abbrev pub kind_in : TokenForm → List ℕ → Kind
kind_in (token_forms.Text t) text = kind_of_text t text
kind_in (token_forms.Sign s) text = kind_of_sign s
kind_in (token_forms.Glyph n) text = glyph n

abbrev pub token_of : TokenForm → PartialToken → Token
token_of form h = record { at = h.at; kind = kind_in form h.text }

-- the data so far, and those that come
abbrev pub with_front : List ℕ → Reading → Reading
with_front text (closed more) = closed (text ++ more)
with_front text (broken at reason) = broken at reason

-- the bytes before the last one
abbrev pub before_last : List ℕ → List ℕ
before_last text = take (length text - 1) text

-- the tokens that come, if the bytes from the place on are s
abbrev pub tokens_to_come_in : LexMode → ℕ → ℕ → List ℕ → List ℕ → List Token
tokens_to_come_in Start place at text s = tokens_of s
tokens_to_come_in AfterEf place at text s = tokens_of (239 ∷ s)
tokens_to_come_in AfterEfBb place at text s = tokens_of (239 ∷ 187 ∷ s)
tokens_to_come_in LineStart place at text s = tokens_from place column s
tokens_to_come_in Outside place at text s = tokens_from place outside s
tokens_to_come_in EscapeLine place at text s = tokens_from place in_escape_line s
tokens_to_come_in (Text texts.Str) place at text s = onto at (string_at (with_front text (reading at place (length text) false s))) (tokens_from place quotes s)
tokens_to_come_in (Text t) place at text s = onto at (found_of t at (text ++ take_while (is_in (bytes_of t)) s)) (tokens_from place (within_of t) s)
tokens_to_come_in AfterBackslash place at text s =
    onto at (string_at (with_front (before_last text) (reading at place (length (before_last text)) true s))) (tokens_from place backslash s)
tokens_to_come_in Dollar place at text s = onto at (glyph_at at (take_while is_digit s)) (tokens_from place in_glyph s)
tokens_to_come_in (Glyph n) place at text s = onto at (numbered_at at (number_from n (take_while is_digit s))) (tokens_from place in_glyph s)
tokens_to_come_in (Comment close) place at text s = tokens_from place (between close) s
tokens_to_come_in (Failed reason) place at text s = refusal (record { at = at; reason = reason }) ∷ []

abbrev pub tokens_to_come : ℕ → PartialToken → List ℕ → List Token
tokens_to_come place h s = tokens_to_come_in h.mode place h.at h.text s

-- what the text and the number of a token so far have; 92 is a backslash
abbrev pub HasMore : LexMode → List ℕ → Type 0
HasMore (Text texts.Str) text = Unit {0}
HasMore (Text t) text = (0 < length text) × (length text ≤ longest_of t)
HasMore AfterBackslash text = (front : List ℕ) × (text ≡ front ++ 92 ∷ [])
HasMore (Glyph n) text = n ≤ 255
HasMore _ text = Unit {0}

-- the text fits the buffer
abbrev pub HasRoom : LexMode → List ℕ → Type 0
HasRoom mode text = (length text ≤ 255) × HasMore mode text

-- the partial token began before the place
abbrev pub IsPlaced : LexMode → ℕ → ℕ → List ℕ → Type 0
IsPlaced Start place at text = place ≡ 0
IsPlaced AfterEf place at text = place ≡ 1
IsPlaced AfterEfBb place at text = place ≡ 2
IsPlaced (Text texts.Str) place at text = at < place
IsPlaced (Text t) place at text = place ≡ at + length text
IsPlaced AfterBackslash place at text = at < place
IsPlaced Dollar place at text = at < place
IsPlaced (Glyph n) place at text = at < place
IsPlaced _ place at text = Unit {0}

-- what holds of each lexer
pub record IsSound (place : ℕ) (h : PartialToken) : Type 0 where
  pub room : HasRoom h.mode h.text
  pub placed : IsPlaced h.mode place h.at h.text

-- no rejection was met
abbrev pub HasNotFailed : LexMode → Type 0
HasNotFailed (Failed reason) = ⊥
HasNotFailed _ = Unit {0}

-- the rejection for a reason, at the place of the partial token
abbrev pub fault_met : LexReason → PartialToken → LexFault
fault_met reason h = record { at = h.at; reason = reason }

-- how many tokens come with no byte more, but for the end
abbrev pub pending_in : LexMode → ℕ
pending_in (Text texts.Str) = 0
pending_in (Text (texts.Word closes.LineEnd)) = 2
pending_in (Text t) = 1
pending_in (Glyph n) = 1
pending_in (Comment closes.LineEnd) = 1
pending_in _ = 0

abbrev pub pending : PartialToken → ℕ
pending h = pending_in h.mode
