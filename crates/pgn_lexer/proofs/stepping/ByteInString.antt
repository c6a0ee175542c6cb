-- A byte in a string.
use Rattle.pgn_lexer.proofs.Words.{◌≡◌, ℕ, ◌+◌, ◌<◌, ◌≤◌, Bool, true, false, List, [], ◌∷◌, ◌++◌, length, append-nil, append_assoc, arith, length-append, nat_lt, if◌then◌else◌, ControlByte, StringTooLong, UnclosedString, StringClass, Used, Token, string_class, Reading, closed, broken, datum, reading, string_at, quotes, onto, tokens_from, tokens_to_come_in, with_front, grown, fails, set_at, in_text, AfterBackslash, after_backslash, before_last, backslash, eqb-true, ltb-true, PartialToken, LexMode, Text, is_plain, is_escaped, ◌⊎◌, true≢false, rules, common_steps}
use Rattle.pgn_lexer.specs.ByteResult as byte_result
use Rattle.std.proofs.Math.Seq.{take-append_seam}
use Rattle.pgn_lexer.proofs.stepping.StepGives.{Front, Gives, GivesIn, front_by}

pub before_one_more : (front : List ℕ) (b : ℕ) → before_last (front ++ b ∷ []) ≡ front
before_one_more front b = grind (arith, common_steps, length-append, take-append_seam)

-- data read so far go in front, one by one
with_front-datum : (text : List ℕ) (b : ℕ) (r : Reading) → with_front text (datum b r) ≡ with_front (text ++ b ∷ []) r
with_front-datum text b r = grind (arith, append_assoc)

-- what a byte of each class comes to
abbrev pub read_plain : ℕ → ℕ → ℕ → ℕ → List ℕ → StringClass → Reading
read_plain start at n b bs c =
    elim c [
      | StringClass.Quote ↦ closed []
      | StringClass.LineEnd ↦ broken start UnclosedString
      | StringClass.Control ↦ broken at ControlByte
      | StringClass.Backslash ↦ elim (nat_lt n 255) [ true ↦ reading start (at + 1) n true bs | false ↦ broken start StringTooLong ]
      | StringClass.Plain ↦
          elim (nat_lt n 255) [ true ↦ datum b (reading start (at + 1) (n + 1) false bs) | false ↦ broken start StringTooLong ]
    ]

abbrev pub read_escaped : ℕ → ℕ → ℕ → ℕ → List ℕ → StringClass → Reading
read_escaped start at n b bs c =
    elim c [
      | StringClass.Quote ↦ datum b (reading start (at + 1) (n + 1) false bs)
      | StringClass.LineEnd ↦ broken start UnclosedString
      | StringClass.Control ↦ broken at ControlByte
      | StringClass.Backslash ↦ datum b (reading start (at + 1) (n + 1) false bs)
      | StringClass.Plain ↦
          elim (nat_lt n 254) [ true ↦ datum 92 (datum b (reading start (at + 1) (n + 2) false bs)) | false ↦ broken start StringTooLong ]
    ]

abbrev escaped_tokens : ℕ → ℕ → List ℕ → List ℕ → Reading → List Token
escaped_tokens place at text s r = onto at (string_at (with_front text r)) (tokens_from (place + 1) quotes s)

pub plain_class : (b : ℕ) → is_plain b ≡ true → string_class b ≡ StringClass.Plain
plain_class b e = grind arith

class_plain : (b : ℕ) → string_class b ≡ StringClass.Plain → is_plain b ≡ true
class_plain b e = grind arith

backslash_is : (b : ℕ) → string_class b ≡ StringClass.Backslash → b ≡ 92
backslash_is b e = grind (arith, eqb-true)

pub escaped_class : (b : ℕ) → is_escaped b ≡ true → (string_class b ≡ StringClass.Quote) ⊎ (string_class b ≡ StringClass.Backslash)
escaped_class b e = grind arith

module _ (place at b : ℕ) (text : List ℕ) (fits : length text ≤ 255) (began : at < place) where
  datum_comes : (s : List ℕ) → escaped_tokens place at text s (datum b (reading at (place + 1) (length text + 1) false s))
      ≡ escaped_tokens place at (text ++ b ∷ []) s (reading at (place + 1) (length (text ++ b ∷ [])) false s)
  datum_comes s = grind (arith, with_front-datum, length-append)

  plain_plain : (d : Bool) → nat_lt (length text) 255 ≡ d → string_class b ≡ StringClass.Plain
      → GivesIn (LexMode.Text Text.Str) place at b text (λ h. if d then grown h (LexMode.Text Text.Str) b else fails h h.at StringTooLong)
  plain_plain d h1 h2 = grind (arith, length-append, datum_comes)

  backslash_comes : (s : List ℕ) → nat_lt (length text) 255 ≡ true → string_class b ≡ StringClass.Backslash
      → tokens_to_come_in (LexMode.Text Text.Str) place at text (b ∷ s)
      ≡ onto at (string_at (with_front text (reading at (place + 1) (length text) true s))) (tokens_from (place + 1) backslash s)
  backslash_comes s h1 h2 = grind arith

  plain_backslash : (d : Bool) → nat_lt (length text) 255 ≡ d → string_class b ≡ StringClass.Backslash
      → GivesIn (LexMode.Text Text.Str) place at b text (λ h. if d then grown h AfterBackslash b else fails h h.at StringTooLong)
  plain_backslash d h1 is = search (rules, ltb-true, length-append, backslash_is, backslash_comes, before_one_more)

  pub string_gives : (c : StringClass) → string_class b ≡ c → GivesIn (LexMode.Text Text.Str) place at b text (λ h. byte_result.string place h b c)
  string_gives c h1 = search (rules, plain_plain, plain_backslash, append-nil)

  pub in_string_gives : (c : Bool) → is_plain b ≡ c → GivesIn (LexMode.Text Text.Str) place at b text
      (λ h. if c then (if nat_lt (length h.text) 255 then grown h (LexMode.Text Text.Str) b else fails h h.at StringTooLong)
      else byte_result.string place h b (string_class b))
  in_string_gives c e = search (rules, plain_plain, plain_class, string_gives)

-- what comes after a backslash, behind these data
module _ (place at b : ℕ) (front : List ℕ) (short : length front < 255) (began : at < place) where
  abbrev behind : Front
  behind =
      front_by place b (onto at (string_at (with_front front (reading at place (length front) true []))) (tokens_from place backslash [])) 0
      (λ s. escaped_tokens place at front s (reading at place (length front) true (b ∷ s)))

  abbrev stored : PartialToken
  stored = record { mode = LexMode.AfterBackslash; at = at; text = front ++ 92 ∷ [] }

  -- a quote or a backslash is a datum
  taken_back : is_escaped b ≡ true → Gives behind (set_at (LexMode.Text Text.Str) at (front ++ b ∷ []) Used)
  taken_back h1 = grind (arith, length-append, datum_comes, escaped_class)

  -- another byte is read by itself
  read_plain_byte : (d : Bool) → nat_lt (length (front ++ 92 ∷ [])) 255 ≡ d → string_class b ≡ StringClass.Plain
      → Gives behind (if d then grown stored (LexMode.Text Text.Str) b else fails stored at StringTooLong)
  read_plain_byte d h1 h2 = grind (arith, length-append, with_front-datum)

  read_end : (c : StringClass) → string_class b ≡ c → is_escaped b ≡ false → (c ≡ StringClass.Plain → ⊥) → Gives behind (byte_result.string place stored b c)
  read_end c h1 h2 h3 = grind (arith, length-append)

  read_by_itself : (c : Bool) → is_plain b ≡ c → is_escaped b ≡ false
      → Gives behind (if c then (if nat_lt (length stored.text) 255 then grown stored (LexMode.Text Text.Str) b else fails stored at StringTooLong)
      else byte_result.string place stored b (string_class b))
  read_by_itself c e other = search (rules, read_plain_byte, plain_class, read_end, true≢false, class_plain)

  pub escaped_gives_by : (c : Bool) → is_escaped b ≡ c
      → Gives behind (if c then set_at (LexMode.Text Text.Str) at (front ++ b ∷ []) Used else in_text Text.Str place stored b)
  escaped_gives_by c e = search (rules, taken_back, read_by_itself)

pub escaped_gives : (place at b : ℕ) (text front : List ℕ) → text ≡ front ++ 92 ∷ [] → length text ≤ 255 → at < place
    → GivesIn LexMode.AfterBackslash place at b text (λ h. after_backslash place h b)
escaped_gives place at b text front is fits began = search (rules, length-append, before_one_more, escaped_gives_by)
