-- The data of a string, as they are written.
use Rattle.pgn_lexer.proofs.stepping.ByteInString.{read_plain}
use Rattle.pgn_lexer.proofs.Words.{◌≡◌, ℕ, ◌+◌, ◌<◌, ◌≤◌, Bool, true, false, List, ◌∷◌, ◌++◌, length, ◌∙◌, arith, ◌||◌, not, ◌==◌, if◌then◌else◌, lt-ltb, ControlByte, StringClass, is_line_end, string_class, Reading, broken, datum, reading, tokens_from, with_front, StopsAt, is_escaped, is_barred, is_plain, Data, no_data, plain, escaped, lone, outside, quotes, ap}

-- what the class of a byte in a string says
module _ (quote slash line_end barred : Bool) where
  abbrev Says : StringClass → Type 0
  Says StringClass.Quote = quote ≡ true
  Says StringClass.Backslash = slash ≡ true
  Says StringClass.LineEnd = line_end ≡ true
  Says StringClass.Control = (line_end ≡ false) × (barred ≡ true)
  Says StringClass.Plain = not (barred || (quote || slash)) ≡ true

  abbrev by_tests : StringClass
  by_tests =
      if quote then StringClass.Quote else (if slash then StringClass.Backslash
      else (if line_end then StringClass.LineEnd else (if barred then StringClass.Control else StringClass.Plain)))

  says_of : Says by_tests
  says_of = grind arith

  plain_of : (line_end ≡ true → barred ≡ true) → Says StringClass.Plain → by_tests ≡ StringClass.Plain
  plain_of h1 h2 = grind arith

abbrev pub StringSays : ℕ → StringClass → Type 0
StringSays b c = Says (b == 34) (b == 92) (is_line_end b) (is_barred b) c

pub string_says : (b : ℕ) → StringSays b (string_class b)
string_says b = says_of _ _ _ _

line_end_barred : (b : ℕ) → is_line_end b ≡ true → is_barred b ≡ true
line_end_barred b e = grind arith

plain_class : (b : ℕ) → is_plain b ≡ true → string_class b ≡ StringClass.Plain
plain_class b e = plain_of _ _ _ _ (line_end_barred b) e

-- the byte is no quote and no backslash
abbrev IsOther : StringClass → Type 0
IsOther StringClass.Quote = ⊥
IsOther StringClass.Backslash = ⊥
IsOther _ = Unit {0}

with_front-cons : (b : ℕ) (text : List ℕ) (r : Reading) → with_front (b ∷ text) r ≡ datum b (with_front text r)
with_front-cons b text r = grind arith

-- a backslash that escapes nothing is a datum before what comes
lone_same : (start at n : ℕ) (s : List ℕ) → n < 255 → StopsAt is_escaped s
    → reading start at n true s ≡ datum 92 (reading start at (n + 1) false s)
lone_same start at n s h1 h2 = grind arith

-- a quote or a backslash behind a backslash is a datum
escaped_reads : (start at n b : ℕ) (s : List ℕ) → is_escaped b ≡ true
    → reading start at n true (b ∷ s) ≡ datum b (reading start (at + 1) (n + 1) false s)
escaped_reads start at n b s e = grind arith

-- reading data gives them, and goes on behind them
pub reads_data : (start at n : ℕ) (raw text s : List ℕ) → Data raw text s → n + length text ≤ 255
    → reading start at n false (raw ++ s) ≡ with_front text (reading start (at + length raw) (n + length text) false s)
reads_data start at n _ _ _ (no_data s) fits = grind arith
reads_data start at n _ _ _ (plain b raw text s e data') fits =
    let here : at + 1 + length raw ≡ at + length (b ∷ raw) = omega arith in
    let many : n + 1 + length text ≡ n + length (b ∷ text) = omega arith in
    ap (read_plain start at n b (raw ++ s)) (plain_class b e)
    ∙ rw (lt-ltb n 255 (omega arith), read_plain, reads_data start (at + 1) (n + 1) raw text s data' (omega arith), with_front-cons, here, many)
reads_data start at n _ _ _ (escaped b raw text s e data') fits =
    let here : at + 1 + 1 + length raw ≡ at + length (92 ∷ b ∷ raw) = omega arith in
    let many : n + 1 + length text ≡ n + length (b ∷ text) = omega arith in
    rw (lt-ltb n 255 (omega arith), reading, escaped_reads start (at + 1) n b (raw ++ s) e, reads_data start (at + 1 + 1) (n + 1) raw text s data' (omega arith), with_front-cons, here, many)
reads_data start at n _ _ _ (lone raw text s stop data') fits =
    let room : n < 255 = omega arith in
    let here : at + 1 + length raw ≡ at + length (92 ∷ raw) = omega arith in
    let many : n + 1 + length text ≡ n + length (92 ∷ text) = omega arith in
    rw (lt-ltb n 255 room, reading, lone_same start (at + 1) n (raw ++ s) room stop, reads_data start (at + 1) (n + 1) raw text s data' (omega arith), with_front-cons, here, many)

-- the places within the quotes give nothing
quotes_go : (at b : ℕ) (s : List ℕ) → IsOther (string_class b) → tokens_from at quotes (b ∷ s) ≡ tokens_from (at + 1) quotes s
quotes_go at b s other = grind arith

-- a byte that is neither goes on, also behind a backslash
behind_lone : (at : ℕ) (raw s : List ℕ) → StopsAt is_escaped (raw ++ 34 ∷ s)
    → tokens_from at quotes (92 ∷ (raw ++ 34 ∷ s)) ≡ tokens_from (at + 1) quotes (raw ++ 34 ∷ s)
behind_lone at raw s h1 = grind arith

pub quotes_skip : (at : ℕ) (raw text rest s : List ℕ) → Data raw text rest → rest ≡ 34 ∷ s
    → tokens_from at quotes (raw ++ 34 ∷ s) ≡ tokens_from (at + length raw + 1) outside s
quotes_skip at _ _ _ s (no_data _) e = grind arith
quotes_skip at _ _ _ s (plain b raw text rest p data') e =
    let same : at + 1 + length raw + 1 ≡ at + length (b ∷ raw) + 1 = omega arith in
    quotes_go at b _ (rw (plain_class b p) tt) ∙ rw (quotes_skip (at + 1) raw text rest s data' e, same)
quotes_skip at _ _ _ s (escaped b raw text rest p data') e =
    let same : at + 1 + 1 + length raw + 1 ≡ at + length (92 ∷ b ∷ raw) + 1 = omega arith in
    rw (quotes_skip (at + 1 + 1) raw text rest s data' e, same)
quotes_skip at _ _ _ s (lone raw text rest stop data') e =
    let same : at + 1 + length raw + 1 ≡ at + length (92 ∷ raw) + 1 = omega arith in
    behind_lone at raw s (rw e at stop) ∙ rw (quotes_skip (at + 1) raw text rest s data' e, same)

pub reads_control : (start at n b : ℕ) (s : List ℕ) → is_barred b ≡ true → is_line_end b ≡ false
    → reading start at n false (b ∷ s) ≡ broken at ControlByte
reads_control start at n b s bad other = grind arith
