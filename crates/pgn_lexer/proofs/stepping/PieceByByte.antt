-- A run over a piece, byte by byte.
use Rattle.pgn_lexer.specs.declared.partial_token.LexMode.TheVariants.{Comment, Dollar}
use Rattle.pgn_lexer.specs.PartialToken.{HasRoom}
use Rattle.pgn_lexer.specs.RunResult.{RunGives}
use Rattle.pgn_lexer.proofs.Words.{Begins, CommentClass, Fits, IsBetween, begins_outside, CommentEnd, Sign, begin_outside, begins_in_comment, before_last, comment_close, is_space, kind_of_sign, AfterBackslash, Text, bytes_of, longest_of, mode_behind, in_text, is_in, is_plain, length-append, is_escaped, ◌≡◌, Bool, ℕ, ◌+◌, ◌-◌, ◌*◌, ◌<◌, ◌≤◌, List, [], ◌∷◌, ◌++◌, length, get_or, take, refl, ap, ◌∙◌, add-one, arith, ◌⊎◌, true, false, Some, take_all, drop-cons, LexFault, LexMode, LexReason, Class, StringClass, Outside, Failed, is_digit, class, comment_class, string_class, TokenForm, ByteResult, Used, Ends, EndsBefore, Fault, PartialToken, tokens_to_come, token_of, IsSound, HasNotFailed, pending, fault_met, fault_in_mode, begin, begin_line, string, after_byte, IsAfterByte, IsOutside, Ran, RunsOut, StoodAt, RunsToToken, RunsToFault, common_steps, Glyph, rules}
use Rattle.pgn_lexer.proofs.stepping.StepGives.{StepGives, front_of}
use Rattle.pgn_lexer.proofs.stepping.ByteGives.{step_gives}
use Rattle.pgn_lexer.proofs.stepping.ByteInString.{plain_class}
use Rattle.pgn_lexer.proofs.stepping.ByteInText.{IsNoString, ends_text}

pub ran_to_token : (place : ℕ) (old : PartialToken) (piece : List ℕ) (new : PartialToken) (used : ℕ) (reached : ByteResult) (form : TokenForm)
    → (reached ≡ Ends form) ⊎ (reached ≡ EndsBefore form) → RunGives place old piece new used reached
    → RunsToToken place old piece (token_of form new) new used
ran_to_token place old piece new used reached form h1 h = search rules

takes_gives : (place : ℕ) (h : PartialToken) (b : ℕ) (new : PartialToken) (answer : ByteResult) → IsSound place h
    → IsAfterByte (after_byte place h b) new answer → StepGives (front_of place h b) new answer
takes_gives place h b new answer sound t = grind (arith, step_gives)

pub ran_none : (place : ℕ) (h : PartialToken) (piece : List ℕ) → IsSound place h → HasNotFailed h.mode → Ran place h piece h 0
ran_none place h piece sound not_failed = grind arith

-- the whole piece was used, and no token ended in it
pub ran_out : (place : ℕ) (old : PartialToken) (piece : List ℕ) (new : PartialToken) (used : ℕ) → used ≡ length piece
    → Ran place old piece new used → RunsOut place old piece new used
ran_out place old piece new used all r = grind (arith, common_steps, tokens_to_come, take_all)

going_on : (m : LexMode) (at : ℕ) (f : LexFault) → HasNotFailed m → fault_in_mode m at ≡ Some f → ⊥
going_on m at f h1 h2 = grind arith

module _ (place : ℕ) (old : PartialToken) (piece : List ℕ) (h : PartialToken) (i b : ℕ)
    (here : i < length piece) (at_b : get_or piece i 0 ≡ b) (ran : Ran place old piece h i) where
  longer : (s : List ℕ) → tokens_to_come place old (take (i + 1) piece ++ s) ≡ tokens_to_come (place + i) h (b ∷ s)
  longer s = grind (arith, common_steps)

  next_place : (place + i) + 1 ≡ place + (i + 1)
  next_place = omega arith

  standing : StoodAt place old piece i
  standing = grind arith

  pub ran_uses : (new : PartialToken) → IsAfterByte (after_byte (place + i) h b) new Used → Ran place old piece new (i + 1)
  ran_uses new t =
      let g = takes_gives _ h b new _ ran.sound t in search (rules, next_place, longer)

  pub ran_ends : (form : TokenForm) (new : PartialToken) → IsAfterByte (after_byte (place + i) h b) new (Ends form)
      → RunsToToken place old piece (token_of form new) new (i + 1)
  ran_ends form new t =
      let g = takes_gives _ h b new _ ran.sound t in
      let few = g.few in search (rules, next_place, standing, longer)

  -- a token that took no byte was pending
  moves : (new : PartialToken) → pending new ≤ 1 → pending new < pending h → (j : ℕ) → i ≡ j → pending new < 2 * j + pending old
  moves new h1 h2 j h3 = grind arith

  pub ran_ends_before : (form : TokenForm) (new : PartialToken) → IsAfterByte (after_byte (place + i) h b) new (EndsBefore form)
      → RunsToToken place old piece (token_of form new) new i
  ran_ends_before form new t =
      let g = takes_gives _ h b new _ ran.sound t in search (rules, moves, standing, drop-cons, add-one)

  pub ran_fails : (reason : LexReason) (new : PartialToken) → IsAfterByte (after_byte (place + i) h b) new (Fault reason)
      → RunsToFault place old piece (fault_met reason new) new (i + 1)
  ran_fails reason new t =
      let g = takes_gives _ h b new _ ran.sound t in search (rules, next_place, going_on, longer)

-- ---- a text of any kind

takes_text : (t : Text) (place b : ℕ) (h new : PartialToken) (answer : ByteResult) → h.mode ≡ LexMode.Text t
    → IsAfterByte (in_text t place h b) new answer → IsAfterByte (after_byte place h b) new answer
unfolding after_byte
takes_text t place b h new answer e is = grind arith

-- a byte more of it
more_of : (t : Text) (place b : ℕ) (h new : PartialToken) → is_in (bytes_of t) b ≡ true → length h.text < longest_of t
    → new ≡ record { mode = LexMode.Text t; at = h.at; text = h.text ++ b ∷ [] } → IsAfterByte (in_text t place h b) new Used
more_of t place b h new goes room grows = rw goes (grind arith)

pub takes_more : (t : Text) (place b : ℕ) (h new : PartialToken) → h.mode ≡ LexMode.Text t → is_in (bytes_of t) b ≡ true → length h.text < longest_of t
    → new ≡ record { mode = h.mode; at = h.at; text = h.text ++ b ∷ [] } → IsAfterByte (after_byte place h b) new Used
takes_more t place b h new e goes room grows =
    takes_text t _ b h new _ e (more_of t place b h new goes room (grows ∙ ap (λ m. record { mode = m; at = h.at; text = h.text ++ b ∷ [] }) e))

-- its end
ended : (t : Text) → IsNoString t → (place b : ℕ) (h new : PartialToken) → is_in (bytes_of t) b ≡ false
    → new ≡ record { mode = mode_behind t; at = h.at; text = h.text } → IsAfterByte (in_text t place h b) new (EndsBefore (TokenForm.Text t))
ended t runs place b h new stops is = rw (stops, ends_text t runs place b h) (record { held = is; step = refl })

pub takes_text_end : (t : Text) → IsNoString t → (place b : ℕ) (h new : PartialToken) → h.mode ≡ LexMode.Text t → is_in (bytes_of t) b ≡ false
    → new ≡ record { mode = mode_behind t; at = h.at; text = h.text } → IsAfterByte (after_byte place h b) new (EndsBefore (TokenForm.Text t))
takes_text_end t runs place b h new e stops is = takes_text t _ b h new _ e (ended t runs place b h new stops is)

pub takes_outside : (place b : ℕ) (h new : PartialToken) (answer : ByteResult) (c : Class) → IsOutside h.mode → class b ≡ c
    → begin_line place h b c ≡ begin_outside place h b c → IsAfterByte (begin_outside place h b c) new answer → IsAfterByte (after_byte place h b) new answer
unfolding after_byte
takes_outside place b h new answer c outside e same t = grind arith

-- no rejection was met, in any other mode
pub unless_failed : (m : LexMode) → ((reason : LexReason) → m ≡ Failed reason → ⊥) → HasNotFailed m
unless_failed m h1 = grind arith

-- a byte that is no data of a string
not_plain : (b : ℕ) (c : StringClass) → string_class b ≡ c → (c ≡ StringClass.Plain → ⊥) → (d : Bool) → is_plain b ≡ d → d ≡ false
not_plain b c is other d e = search (rules, plain_class)

taken_string : (place b : ℕ) (h : PartialToken) (c : StringClass) → string_class b ≡ c → (c ≡ StringClass.Plain → ⊥)
    → in_text Text.Str place h b ≡ string place h b c
taken_string place b h c same other = rw (not_plain b c same other _ refl, same) refl

pub takes_backslash : (place b : ℕ) (h new : PartialToken) → h.mode ≡ LexMode.Text Text.Str → string_class b ≡ StringClass.Backslash → length h.text < 255
    → new ≡ record { mode = AfterBackslash; at = h.at; text = h.text ++ b ∷ [] } → IsAfterByte (after_byte place h b) new Used
takes_backslash place b h new e same room goes = takes_text Text.Str _ b h new _ e (rw (taken_string place b h _ same (λ f. cc f)) (grind arith))

-- a quote or a backslash, after a backslash
pub takes_escaped : (place b : ℕ) (h new : PartialToken) → h.mode ≡ AfterBackslash → is_escaped b ≡ true
    → new ≡ record { mode = LexMode.Text Text.Str; at = h.at; text = before_last h.text ++ b ∷ [] } → IsAfterByte (after_byte place h b) new Used
unfolding after_byte
takes_escaped place b h new e escaped goes = rw (e, escaped) (record { held = goes; step = refl })

pub takes_quote : (place b : ℕ) (h new : PartialToken) → h.mode ≡ LexMode.Text Text.Str → string_class b ≡ StringClass.Quote
    → new ≡ record { mode = Outside; at = h.at; text = h.text } → IsAfterByte (after_byte place h b) new (Ends (TokenForm.Text Text.Str))
takes_quote place b h new e same ends = takes_text Text.Str _ b h new _ e (rw (taken_string place b h _ same (λ f. cc f)) (record { held = ends; step = refl }))

-- a NAG
pub takes_dollar : (place b : ℕ) (h new : PartialToken) → h.mode ≡ Dollar → is_digit b ≡ true
    → new ≡ record { mode = Glyph (b - 48); at = h.at; text = h.text } → IsAfterByte (after_byte place h b) new Used
unfolding after_byte
takes_dollar place b h new e digit is = grind arith

pub takes_digit : (place b : ℕ) (h new : PartialToken) (n : ℕ) → h.mode ≡ Glyph n → is_digit b ≡ true → 10 * n + (b - 48) ≤ 255
    → new ≡ record { mode = Glyph (10 * n + (b - 48)); at = h.at; text = h.text } → IsAfterByte (after_byte place h b) new Used
unfolding after_byte
takes_digit place b h new n e digit small is = grind (arith, place, small)

pub takes_glyph_end : (place b : ℕ) (h new : PartialToken) (n : ℕ) → h.mode ≡ Glyph n → is_digit b ≡ false
    → new ≡ record { mode = Outside; at = h.at; text = h.text } → IsAfterByte (after_byte place h b) new (EndsBefore (TokenForm.Glyph n))
unfolding after_byte
takes_glyph_end place b h new n e ends is = rw (e, ends) (record { held = is; step = refl })

-- ---- in a comment

pub takes_between : (l : CommentEnd) (place b : ℕ) (h new : PartialToken) (answer : ByteResult) (begun : Begins) → h.mode ≡ Comment l
    → begins_in_comment l (comment_class b) ≡ begun → IsAfterByte (begin place h b begun) new answer → IsAfterByte (after_byte place h b) new answer
unfolding after_byte
takes_between l place b h new answer begun e is t = rw (e, is) t

-- what begins there
gap_of_class : (l : CommentEnd) (c : CommentClass) (m : LexMode) → begins_in_comment l c ≡ Begins.Gap m
    → (m ≡ Comment l) × ((c ≡ CommentClass.LineEnd) ⊎ (c ≡ CommentClass.Space))
gap_of_class l c m is = grind arith

space_of_class : (b : ℕ) → (comment_class b ≡ CommentClass.LineEnd) ⊎ (comment_class b ≡ CommentClass.Space) → is_space b ≡ true
space_of_class b is = grind arith

pub gap_begun : (l : CommentEnd) (b : ℕ) (m : LexMode) → begins_in_comment l (comment_class b) ≡ Begins.Gap m → (m ≡ Comment l) × (is_space b ≡ true)
gap_begun l b m is = let of = gap_of_class l _ m is in (of.0, space_of_class b of.1)

pub word_begun : (l : CommentEnd) (c : CommentClass) (t : Text) → begins_in_comment l c ≡ Begins.Text t → Text.Word l ≡ t
word_begun l c t is = grind arith

pub close_begun : (l : CommentEnd) (c : CommentClass) (k : Sign) (m : LexMode) → begins_in_comment l c ≡ Begins.Alone k m
    → (kind_of_sign k ≡ comment_close) × IsBetween m
close_begun l c k m is = grind arith

pub outside_fits : (c : Class) (text : List ℕ) → Fits (begins_outside c) text
outside_fits c text = grind arith

pub longest_fits : (t : Text) → longest_of t ≤ 255
longest_fits t = grind arith

module _ (t : Text) (mode : LexMode) (inside : mode ≡ LexMode.Text t) (text : List ℕ) where
  pub grown_fits : (b : ℕ) → HasRoom mode text → length text < longest_of t → HasRoom mode (text ++ b ∷ [])
  grown_fits b room short = grind (arith, length-append)
