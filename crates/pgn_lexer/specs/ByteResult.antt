-- **Bookkeeping**: what one byte, or the end of the text, does to what a lexer holds.
-- Letters: h is what is held, b the byte, `place` its place. Bytes are numbers: 10 is a line
-- feed, 48 is `0`, and 239 187 191 is the byte order mark EF BB BF.
use Rattle.std.specs.Prelude.{◌≡◌, ℕ, ◌+◌, ◌-◌, ◌*◌, List, [], ◌∷◌, ◌++◌, length, nat_lt, nat_le, ◌==◌, if◌then◌else◌}
use Rattle.pgn_lexer.specs.declared.token.LexReason.{LexReason}
use Rattle.pgn_lexer.specs.declared.token.LexReason.TheVariants.{StrayByte, ControlByte, StringTooLong, LoneDollar, GlyphRange, UnclosedString, UnclosedComment}
use Rattle.pgn_lexer.specs.Class.{Class}
use Rattle.pgn_lexer.specs.Class as classes
use Rattle.pgn_lexer.specs.StringClass.{StringClass}
use Rattle.pgn_lexer.specs.StringClass as string_classes
use Rattle.pgn_lexer.specs.declared.partial_token.LexMode.{LexMode}
use Rattle.pgn_lexer.specs.declared.partial_token.LexMode.TheVariants.{Start, AfterEf, AfterEfBb, LineStart, Outside, EscapeLine, Text, AfterBackslash, Dollar, Glyph, Comment, Failed}
use Rattle.pgn_lexer.specs.declared.partial_token.CommentEnd.TheVariants as closes
use Rattle.pgn_lexer.specs.declared.partial_token.Text.{Text as TextKind}
use Rattle.pgn_lexer.specs.declared.partial_token.Text.TheVariants as texts
use Rattle.pgn_lexer.specs.declared.partial_token.TokenForm.TheVariants as token_forms
use Rattle.pgn_lexer.specs.declared.partial_token.ByteResult.{ByteResult}
use Rattle.pgn_lexer.specs.declared.partial_token.ByteResult.TheVariants.{Used, Ends, EndsBefore, Fault}
use Rattle.pgn_lexer.specs.Bytes.{is_line_end, is_digit}
use Rattle.pgn_lexer.specs.Spelling.{class, comment_class, string_class}
use Rattle.pgn_lexer.specs.declared.partial_token.begins.Begins.{Begins}
use Rattle.pgn_lexer.specs.declared.partial_token.begins.Begins.TheVariants as begins
use Rattle.pgn_lexer.specs.Begins.{begins_outside, begins_in_comment}
use Rattle.pgn_lexer.specs.Lexes.{is_escaped}
use Rattle.pgn_lexer.specs.PartialToken.{PartialToken, before_last}
use Rattle.pgn_lexer.specs.Sets.{is_in}
use Rattle.pgn_lexer.specs.Texts.{bytes_of, longest_of, too_long_of, mode_behind}

-- what is held then, and what the byte results in
pub record AfterByte : Type 0 where
  pub held : PartialToken
  pub step : ByteResult

-- a call left and returned just that
pub record IsAfterByte (t : AfterByte) (new : PartialToken) (answer : ByteResult) : Type 0 where
  pub held : new ≡ t.held
  pub step : answer ≡ t.step

-- the mode, the place and the text are set
abbrev pub set_at : LexMode → ℕ → List ℕ → ByteResult → AfterByte
set_at mode place text step = record { held = record { mode = mode; at = place; text = text }; step = step }

-- the mode alone changes
abbrev pub into : PartialToken → LexMode → ByteResult → AfterByte
into h mode step = set_at mode h.at h.text step

-- one byte more of the token
abbrev pub grown : PartialToken → LexMode → ℕ → AfterByte
grown h mode b = set_at mode h.at (h.text ++ b ∷ []) Used

-- the lexer rejects the text at this place, for good
abbrev pub fails : PartialToken → ℕ → LexReason → AfterByte
fails h at reason = set_at (Failed reason) at h.text (Fault reason)

-- that, if the token has fewer bytes than the most that it may have
abbrev pub if_room : ℕ → LexReason → PartialToken → AfterByte → AfterByte
if_room most reason h after = if nat_lt (length h.text) most then after else fails h h.at reason

-- what a byte between tokens begins
abbrev pub begin : ℕ → PartialToken → ℕ → Begins → AfterByte
begin place h b (begins.Gap mode) = set_at mode place h.text Used
begin place h b (begins.Text text) = set_at (Text text) place (b ∷ []) Used
begin place h b begins.Str = set_at (Text texts.Str) place [] Used
begin place h b begins.Dollar = set_at Dollar place h.text Used
begin place h b (begins.Alone sign mode) = set_at mode place h.text (Ends (token_forms.Sign sign))
begin place h b (begins.Refused reason) = fails h place reason

abbrev pub begin_outside : ℕ → PartialToken → ℕ → Class → AfterByte
begin_outside place h b c = begin place h b (begins_outside c)

-- in the first column a percent sign begins an escape line
abbrev pub begin_line : ℕ → PartialToken → ℕ → Class → AfterByte
begin_line place h b classes.Percent = into h EscapeLine Used
begin_line place h b c = begin_outside place h b c

abbrev pub escape_line : PartialToken → ℕ → AfterByte
escape_line h b = if is_line_end b then into h LineStart Used else into h EscapeLine Used

-- the text begins in the first column, or with a byte order mark
abbrev pub start : ℕ → PartialToken → ℕ → AfterByte
start place h b = if b == 239 then into h AfterEf Used else begin_line place h b (class b)

-- the mark goes on with one byte only, into this mode
abbrev pub mark : ℕ → LexMode → PartialToken → ℕ → AfterByte
mark wanted mode h b = if b == wanted then into h mode Used else fails h 0 StrayByte

-- the first digit of a NAG; a digit is its byte less 48, the byte of `0`
abbrev pub dollar : PartialToken → ℕ → AfterByte
dollar h b = if is_digit b then into h (Glyph (b - 48)) Used else fails h h.at LoneDollar

abbrev pub glyph : PartialToken → ℕ → ℕ → AfterByte
glyph h n b =
    if is_digit b then (if nat_le (10 * n + (b - 48)) 255 then into h (Glyph (10 * n + (b - 48))) Used else fails h h.at GlyphRange)
    else into h Outside (EndsBefore (token_forms.Glyph n))

-- in a string
abbrev pub string : ℕ → PartialToken → ℕ → StringClass → AfterByte
string place h b string_classes.LineEnd = fails h h.at UnclosedString
string place h b string_classes.Control = fails h place ControlByte
string place h b string_classes.Quote = into h Outside (Ends (token_forms.Text texts.Str))
string place h b string_classes.Backslash = if_room 255 StringTooLong h (grown h AfterBackslash b)
string place h b string_classes.Plain = if_room 255 StringTooLong h (grown h (Text texts.Str) b)

-- a byte that is none of a text
abbrev pub text_end : TextKind → ℕ → PartialToken → ℕ → AfterByte
text_end texts.Str place h b = string place h b (string_class b)
text_end t place h b = into h (mode_behind t) (EndsBefore (token_forms.Text t))

-- in a text
abbrev pub in_text : TextKind → ℕ → PartialToken → ℕ → AfterByte
in_text t place h b = if is_in (bytes_of t) b then if_room (longest_of t) (too_long_of t) h (grown h (Text t) b) else text_end t place h b

-- After a backslash, an escaped byte takes its place, and another one is read by itself.
abbrev pub after_backslash : ℕ → PartialToken → ℕ → AfterByte
after_backslash place h b = if is_escaped b then set_at (Text texts.Str) h.at (before_last h.text ++ b ∷ []) Used else in_text texts.Str place h b

abbrev pub after_byte_in : LexMode → ℕ → PartialToken → ℕ → AfterByte
after_byte_in Start place h b = start place h b
after_byte_in AfterEf place h b = mark 187 AfterEfBb h b
after_byte_in AfterEfBb place h b = mark 191 LineStart h b
after_byte_in LineStart place h b = begin_line place h b (class b)
after_byte_in Outside place h b = begin_outside place h b (class b)
after_byte_in EscapeLine place h b = escape_line h b
after_byte_in (Text t) place h b = in_text t place h b
after_byte_in AfterBackslash place h b = after_backslash place h b
after_byte_in Dollar place h b = dollar h b
after_byte_in (Glyph n) place h b = glyph h n b
after_byte_in (Comment close) place h b = begin place h b (begins_in_comment close (comment_class b))
after_byte_in (Failed reason) place h b = record { held = h; step = Fault reason }

-- the byte b at the place
unfoldable pub after_byte : ℕ → PartialToken → ℕ → AfterByte
after_byte place h b = after_byte_in h.mode place h b

-- The end of the text ends a token, or a comment to the end of its line, as a line feed does. It
-- changes nothing outside them, and rejects a comment in braces.
abbrev pub after_end_in : LexMode → ℕ → PartialToken → AfterByte
after_end_in Start place h = record { held = h; step = Used }
after_end_in LineStart place h = record { held = h; step = Used }
after_end_in Outside place h = record { held = h; step = Used }
after_end_in EscapeLine place h = record { held = h; step = Used }
after_end_in (Comment closes.Brace) place h = fails h place UnclosedComment
after_end_in mode place h = after_byte_in mode place h 10

unfoldable pub after_end : ℕ → PartialToken → AfterByte
after_end place h = after_end_in h.mode place h
