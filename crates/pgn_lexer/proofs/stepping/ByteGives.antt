-- Each byte, and the end of the text, gives the tokens that come.
use Rattle.pgn_lexer.proofs.Words.{◌≡◌, ◌⊎◌, inl, inr, ℕ, ◌<◌, ◌≤◌, List, [], ◌∷◌, length, refl, arith, Some, LexFault, CommentEnd, LexMode, LexReason, TokenForm, HasLength, end, PartialToken, IsSound, HasNotFailed, tokens_to_come, kind_in, kind_of_text, token_of, refusal, pending, fault_met, fault_in_mode, after_byte, after_byte_in, after_end, after_end_in, AfterByte, IsAfterByte, bytes_of, false, in_text, is_in, Text, ByteResult, Used, Ends, EndsBefore, Fault, rules}
use Rattle.pgn_lexer.proofs.stepping.StepGives.{Gives, GivesIn, front_of, holds}
use Rattle.pgn_lexer.proofs.stepping.RunOfBytes.{run_closes}
use Rattle.pgn_lexer.proofs.stepping.ByteOutside.{begin_gives, begin_line_gives, start_gives, escape_line_gives}
use Rattle.pgn_lexer.proofs.stepping.ByteInText.{IsNoString, behind_sound, behind_stands, ends_text, less, so_far, text_closes, text_gives, text_length}
use Rattle.pgn_lexer.proofs.stepping.ByteInString.{in_string_gives, escaped_gives}
use Rattle.pgn_lexer.proofs.stepping.ByteInGlyph.{dollar_gives, glyph_gives}
use Rattle.pgn_lexer.proofs.stepping.ByteInComment.{comment_gives}

step_in : (m : LexMode) (place at b : ℕ) (text : List ℕ) → length text ≤ 255 → IsSound place (holds m at text)
    → GivesIn m place at b text (λ h. after_byte_in m place h b)
step_in LexMode.Start place at b text fits sound = rw sound.placed (start_gives at b text fits _ refl)
step_in LexMode.LineStart place at b text fits sound = begin_line_gives _ place b (holds LexMode.LineStart at text) _ _ fits
step_in LexMode.Outside place at b text fits sound = begin_gives _ place b (holds LexMode.Outside at text) _ _ fits
step_in LexMode.EscapeLine place at b text fits sound = escape_line_gives place at b text fits _ refl
step_in (LexMode.Comment close) place at b text fits sound = comment_gives close place b (holds (LexMode.Comment close) at text) _ _ fits
step_in (LexMode.Text Text.Str) place at b text fits sound = in_string_gives place at b text fits sound.placed _ refl
step_in (LexMode.Text Text.Symbol) place at b text fits sound = text_gives Text.Symbol tt place at b text sound
step_in (LexMode.Text Text.Suffix) place at b text fits sound = text_gives Text.Suffix tt place at b text sound
step_in (LexMode.Text (Text.Word close)) place at b text fits sound = text_gives (Text.Word close) tt place at b text sound
step_in LexMode.AfterBackslash place at b text fits sound = escaped_gives place at b text sound.room.1.0 sound.room.1.1 fits sound.placed
step_in m place at b text fits sound = grind (arith, front_of, dollar_gives, glyph_gives)

pub step_gives : (place : ℕ) (h : PartialToken) (b : ℕ) → IsSound place h → Gives (front_of place h b) (after_byte place h b)
unfolding after_byte
step_gives place h b sound = step_in _ _ _ b _ sound.room.0 sound

-- what the end of the text gives
pub record ClosesToken (place : ℕ) (h : PartialToken) (form : TokenForm) (new : PartialToken) : Type 0 where
  pub sound : IsSound place new
  pub fresh : HasNotFailed h.mode
  pub not_failed : HasNotFailed new.mode
  pub lengths : HasLength (kind_in form new.text)
  pub not_end : kind_in form new.text ≡ end → ⊥
  pub less : pending new < pending h
  pub comes : tokens_to_come place h [] ≡ token_of form new ∷ tokens_to_come place new []

pub record ClosesFault (place : ℕ) (h : PartialToken) (reason : LexReason) (new : PartialToken) : Type 0 where
  pub sound : IsSound place new
  pub fails : fault_in_mode new.mode new.at ≡ Some (fault_met reason new)
  pub stays : (g : LexFault) → fault_in_mode h.mode h.at ≡ Some g → (fault_met reason new ≡ g) × (new ≡ h)
  pub comes : tokens_to_come place h [] ≡ refusal (fault_met reason new) ∷ []

pub record ClosesEnd (place : ℕ) (h new : PartialToken) : Type 0 where
  pub not_failed : HasNotFailed h.mode
  pub same : new ≡ h
  pub comes : tokens_to_come place h [] ≡ record { at = place; kind = end } ∷ []

abbrev CloseGives : ℕ → PartialToken → PartialToken → ByteResult → Type 0
CloseGives place h new Used = ClosesEnd place h new
CloseGives place h new (Ends form) = ClosesToken place h form new
CloseGives place h new (EndsBefore form) = ClosesToken place h form new
CloseGives place h new (Fault reason) = ClosesFault place h reason new

abbrev ClosedGives : ℕ → PartialToken → AfterByte → Type 0
ClosedGives place h t = CloseGives place h t.held t.step

text_is_not_end : (t : Text) (text : List ℕ) → kind_of_text t text ≡ end → ⊥
text_is_not_end t text is = grind arith

stops_text : (t : Text) → is_in (bytes_of t) 10 ≡ false
stops_text t = grind arith

close_text : (t : Text) → IsNoString t → (place at : ℕ) (text : List ℕ) → IsSound place (holds (LexMode.Text t) at text)
    → ClosedGives place (holds (LexMode.Text t) at text) (in_text t place (holds (LexMode.Text t) at text) 10)
close_text t runs place at text sound =
    search (rules, so_far, stops_text, ends_text, holds, behind_sound, behind_stands, text_length, text_is_not_end, less, text_closes)

close_in : (m : LexMode) (place at : ℕ) (text : List ℕ) → length text ≤ 255 → IsSound place (holds m at text)
    → ClosedGives place (holds m at text) (after_end_in m place (holds m at text))
close_in m place at text h1 h2 = search (rules, close_text, run_closes)

close_gives : (place : ℕ) (h : PartialToken) → IsSound place h → ClosedGives place h (after_end place h)
unfolding after_end
close_gives place h sound = close_in _ _ _ _ sound.room.0 sound

pub closes_gives : (place : ℕ) (h new : PartialToken) (answer : ByteResult) → IsSound place h → IsAfterByte (after_end place h) new answer
    → CloseGives place h new answer
closes_gives place h new answer sound t = grind (arith, close_gives)

pub closes_token : (place : ℕ) (h new : PartialToken) (answer : ByteResult) (form : TokenForm) → IsSound place h → IsAfterByte (after_end place h) new answer
    → (answer ≡ Ends form) ⊎ (answer ≡ EndsBefore form) → ClosesToken place h form new
closes_token place h new answer form sound t (inl e) = rw e at (closes_gives place h new answer sound t)
closes_token place h new answer form sound t (inr e) = rw e at (closes_gives place h new answer sound t)

-- a line feed does the same, but for these modes
by_line_feed : (m : LexMode) (place : ℕ) (h : PartialToken) → (m ≡ LexMode.Start → ⊥) → (m ≡ LexMode.LineStart → ⊥) → (m ≡ LexMode.Outside → ⊥)
    → (m ≡ LexMode.EscapeLine → ⊥) → ((close : CommentEnd) → m ≡ LexMode.Comment close → ⊥) → after_byte_in m place h 10 ≡ after_end_in m place h
by_line_feed m place h h1 h2 h3 h4 h5 = grind arith

module _ (place : ℕ) (inside h new : PartialToken) (answer : ByteResult) (view_is : inside ≡ h) where
  pub takes_line_feed : (inside.mode ≡ LexMode.Start → ⊥) → (inside.mode ≡ LexMode.LineStart → ⊥) → (inside.mode ≡ LexMode.Outside → ⊥)
      → (inside.mode ≡ LexMode.EscapeLine → ⊥) → ((close : CommentEnd) → inside.mode ≡ LexMode.Comment close → ⊥)
      → IsAfterByte (after_byte place h 10) new answer → IsAfterByte (after_end place h) new answer
  unfolding after_byte after_end
  takes_line_feed h1 h2 h3 h4 h5 t = rw (← view_is) (rw (← view_is, by_line_feed inside.mode place inside h1 h2 h3 h4 h5) at t)

  pub takes_comment_end : (close : CommentEnd) → inside.mode ≡ LexMode.Comment close → close ≡ CommentEnd.LineEnd
      → IsAfterByte (after_byte place h 10) new answer → IsAfterByte (after_end place h) new answer
  unfolding after_byte after_end
  takes_comment_end close e line t = rw (← view_is, e, line) (rw (← view_is, e, line) at t)
