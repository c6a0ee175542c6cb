-- A byte outside strings and comments, also as the first of a text, and in an escape line.
use Rattle.pgn_lexer.proofs.Words.{after_byte}
use Rattle.pgn_lexer.proofs.Words.{◌≡◌, ℕ, ◌≤◌, Bool, false, List, ◌∷◌, length, ◌==◌, if◌then◌else◌, eqb-true, ByteResult, Used, is_line_end, Token, class, column, tokens_from, tokens_of, has_mark, PartialToken, into, begin_line, arith, LexMode, ◌+◌, Class, begins_class, begins_first, after_class, after_first, onto, begin_outside, IsAfterByte}
use Rattle.pgn_lexer.proofs.stepping.StepGives.{Front, StepGives, GivesIn, Gives, front_by}

module _ (c : Class) (place b : ℕ) (h : PartialToken) (ended : List Token) (waits : ℕ) where
  pub begin_gives : length h.text ≤ 255
      → Gives (front_by place b ended waits (λ s. onto place (begins_class place c b s) (tokens_from (place + 1) (after_class c) s)))
      (begin_outside place h b c)
  begin_gives h1 = grind arith

  -- in the first column
  pub begin_line_gives : length h.text ≤ 255
      → Gives (front_by place b ended waits (λ s. onto place (begins_first place c b s) (tokens_from (place + 1) (after_first c) s)))
      (begin_line place h b c)
  begin_line_gives h1 = grind arith

same_front : (f : Front) (front : List ℕ → List Token) → ((s : List ℕ) → front s ≡ f.front s) → (new : PartialToken) (step : ByteResult)
    → StepGives f new step → StepGives (record f { front = front }) new step
same_front f front h1 new step h2 = grind arith

pub unmarked : (s : List ℕ) → has_mark s ≡ false → tokens_of s ≡ tokens_from 0 column s
unmarked s e = grind arith

pub other_first : (b : ℕ) (s : List ℕ) → (b == 239) ≡ false → has_mark (b ∷ s) ≡ false
other_first b s h1 = grind arith

pub start_gives : (at b : ℕ) (text : List ℕ) → length text ≤ 255 → (c : Bool) → (b == 239) ≡ c
    → GivesIn LexMode.Start 0 at b text (λ h. if c then into h LexMode.AfterEf Used else begin_line 0 h b (class b))
start_gives at b text fits c e = grind (arith, begin_line_gives, eqb-true, other_first, same_front, unmarked)

pub escape_line_gives : (place at b : ℕ) (text : List ℕ) → length text ≤ 255 → (c : Bool) → is_line_end b ≡ c
    → GivesIn LexMode.EscapeLine place at b text (λ h. if c then into h LexMode.LineStart Used else into h LexMode.EscapeLine Used)
escape_line_gives place at b text h1 c h2 = grind arith

-- a byte that begins no mark and no escape line
unless_percent : (b : ℕ) → (b ≡ 37 → ⊥) → class b ≡ Class.Percent → ⊥
unless_percent b h1 h2 = grind (arith, eqb-true)

begins_on : (place b : ℕ) (h : PartialToken) (c : Class) → (c ≡ Class.Percent → ⊥) → begin_line place h b c ≡ begin_outside place h b c
begins_on place b h c h1 = grind arith

module _ (place b : ℕ) (h new : PartialToken) (answer : ByteResult) (t : IsAfterByte (begin_outside place h b (class b)) new answer) where
  pub begins_outside : h.mode ≡ LexMode.Outside → IsAfterByte (after_byte place h b) new answer
  unfolding after_byte
  begins_outside is = rw is t

  pub begins_line : h.mode ≡ LexMode.LineStart → (b ≡ 37 → ⊥) → IsAfterByte (after_byte place h b) new answer
  unfolding after_byte
  begins_line is other = rw (is, begins_on place b h (class b) (unless_percent b other)) t

  pub begins_text : h.mode ≡ LexMode.Start → (b ≡ 239 → ⊥) → (b ≡ 37 → ⊥) → IsAfterByte (after_byte place h b) new answer
  unfolding after_byte
  begins_text is unmarked other = rw (is, begins_on place b h (class b) (unless_percent b other)) (grind (arith, eqb-true))
