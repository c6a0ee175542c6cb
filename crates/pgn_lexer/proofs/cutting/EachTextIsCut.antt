-- Each text can be cut.
use Rattle.pgn_lexer.proofs.Words.{◌≡◌, ℕ, zero, suc, ◌+◌, ◌<◌, ◌≤◌, Bool, true, false, inl, inr, List, [], ◌∷◌, ◌++◌, length, refl, sym, ap, ◌∙◌, append_assoc, arith, length-append, ◌||◌, ◌⊎◌, not, ◌==◌, list_all, both_true, eqb-true, LexReason, StrayByte, ControlByte, Reserved, Class, CommentClass, StringClass, is_line_end, is_blank, is_control, is_digit, starts_symbol, continues_symbol, is_suffix, continues_word, Kind, Token, class, comment_class, tokens_from, tokens_of, has_mark, LexesOnce, StopsAt, IsAtLineEnd, is_escaped, is_barred, is_plain, Data, IsSuffix, SpellsToken, Refuses, Where, Cuts, Lexes, and_parts, or_right, or_left, Single, cases_Bool, cases_lt, kind_of_single, IsSingle}
use Rattle.pgn_lexer.specs.Lexes as lexes
use Rattle.pgn_lexer.proofs.stepping.ByteOutside.{unmarked}
use Rattle.pgn_lexer.proofs.bytes.ClassToTest.{ClassSays, class_says, blank_class}
use Rattle.pgn_lexer.proofs.cutting.StringData.{StringSays, string_says}
use Rattle.pgn_lexer.proofs.cutting.RulesToTokens.{within_of, cuts_is}

-- the longest run at the front
record Split (p : ℕ → Bool) (s : List ℕ) : Type 0 where
  run : List ℕ
  rest : List ℕ
  cut : s ≡ run ++ rest
  all : list_all p run ≡ true
  stop : StopsAt p rest
  shorter : length rest ≤ length s

split : (p : ℕ → Bool) (s : List ℕ) → Split p s
split p [] = grind arith
split p (b ∷ s) =
    let h = split p s in
    let less = h.shorter in
    elim (cases_Bool (p b)) [
      | inl e ↦
          record { run = b ∷ h.run; rest = h.rest; cut = ap (λ l. b ∷ l) h.cut; all = both_true e h.all; stop = h.stop; shorter = omega arith }
      | inr e ↦ record { run = []; rest = b ∷ s; cut = refl; all = refl; stop = e; shorter = omega arith }
    ]

-- what stops the data of a string, after so many
data Stop : ℕ → List ℕ → Type 0 where
  at_line_end : (n : ℕ) (s : List ℕ) → IsAtLineEnd s → Stop n s
  at_quote : (n : ℕ) (s : List ℕ) → Stop n (34 ∷ s)
  at_barred : (n b : ℕ) (s : List ℕ) → is_barred b ≡ true → is_line_end b ≡ false → Stop n (b ∷ s)
  too_long : (n b : ℕ) (s : List ℕ) → n ≡ 255 → (is_plain b || (b == 92)) ≡ true → Stop n (b ∷ s)

record HasData (n : ℕ) (s : List ℕ) : Type 0 where
  raw : List ℕ
  text : List ℕ
  rest : List ℕ
  cut : s ≡ raw ++ rest
  written : Data raw text rest
  fits : n + length text ≤ 255
  stop : Stop (n + length text) rest
  shorter : length rest ≤ length s

stops_here : (n : ℕ) (s : List ℕ) → n ≤ 255 → Stop n s → HasData n s
stops_here n s fits stop =
    let same : n ≡ n + 0 = omega arith in
    record { raw = []; text = []; rest = s; cut = refl; written = lexes.no_data s; fits = omega arith; stop = rw same at stop; shorter = omega arith }

one_more : (n b : ℕ) (front s : List ℕ) → ((h : HasData (n + 1) s) → Data (front ++ h.raw) (b ∷ h.text) h.rest) → HasData (n + 1) s
    → HasData n (front ++ s)
one_more n b front s write h =
    let same : n + 1 + length h.text ≡ n + length (b ∷ h.text) = omega arith in
    let less = h.shorter in
    let fit = h.fits in
    record {
      raw = front ++ h.raw;
      text = b ∷ h.text;
      rest = h.rest;
      cut = ap (λ l. front ++ l) h.cut ∙ sym (append_assoc front h.raw _);
      written = write h;
      fits = omega arith;
      stop = rw same at h.stop;
      shorter = omega (arith, length-append front s);
    }

lone : (n : ℕ) (s : List ℕ) → StopsAt is_escaped s → HasData (n + 1) s → HasData n (92 ∷ s)
lone n s stop = one_more n 92 (92 ∷ []) s (λ h. lexes.lone _ _ _ (rw h.cut at stop) h.written)

behind : (n : ℕ) (s : List ℕ) → ((r : List ℕ) → length r ≤ length s → HasData (n + 1) r) → HasData n (92 ∷ s)
behind n [] on = lone n [] tt (on [] (omega arith))
behind n (c ∷ s) on =
    elim (cases_Bool (is_escaped c)) [
      | inl same ↦ one_more n c (92 ∷ c ∷ []) s (λ h. lexes.escaped c h.raw h.text h.rest same h.written) (on s (omega arith))
      | inr other ↦ lone n (c ∷ s) other (on (c ∷ s) (omega arith))
    ]

module _ (n b : ℕ) (s : List ℕ) (fits : n ≤ 255) (on : (r : List ℕ) → length r ≤ length s → n < 255 → HasData (n + 1) r) where
  by_class : (c : StringClass) → StringSays b c → HasData n (b ∷ s)
  by_class StringClass.Quote says = rw (eqb-true b 34 says) (stops_here n (34 ∷ s) fits (at_quote n s))
  by_class StringClass.LineEnd says = stops_here n (b ∷ s) fits (at_line_end n (b ∷ s) says)
  by_class StringClass.Control says = stops_here n (b ∷ s) fits (at_barred n b s says.1 says.0)
  by_class StringClass.Backslash says =
      elim (cases_lt n 255) [
        | inl room ↦ rw (eqb-true b 92 says) (behind n s (λ r less. on r less room))
        | inr full ↦ stops_here n (b ∷ s) fits (too_long n b s (omega arith) (or_right (is_plain b) (b == 92) says))
      ]
  by_class StringClass.Plain says =
      elim (cases_lt n 255) [
        | inl room ↦ one_more n b (b ∷ []) s (λ h. lexes.plain b h.raw h.text h.rest says h.written) (on s (omega arith) room)
        | inr full ↦ stops_here n (b ∷ s) fits (too_long n b s (omega arith) (or_left (is_plain b) (b == 92) says))
      ]

has_data : (k n : ℕ) (s : List ℕ) → length s ≤ k → n ≤ 255 → HasData n s
has_data k n [] short fits = stops_here n [] fits (at_line_end n [] tt)
has_data zero n (b ∷ s) short fits = absurd (omega arith)
has_data (suc k) n (b ∷ s) short fits = by_class n b s fits (λ r less room. has_data k _ r (omega arith) (omega arith)) _ (string_says b)

abbrev Cut : Where → ℕ → List ℕ → Type 0
Cut w at s = (ts : List Token) × Cuts w at s ts

-- what a byte that goes on with a comment's word, or not, says
abbrev CommentSays : ℕ → CommentClass → Type 0
CommentSays b CommentClass.WordByte = continues_word b ≡ true
CommentSays b CommentClass.LineEnd = is_line_end b ≡ true
CommentSays b CommentClass.Space = is_blank b ≡ true
CommentSays b CommentClass.CloseBrace = (b == 125) ≡ true
CommentSays b CommentClass.Control = is_control b ≡ true

comment_says : (b : ℕ) → CommentSays b (comment_class b)
comment_says b = grind arith

abbrev Further : ℕ → Type 0
Further n = (w : Where) (at : ℕ) (s : List ℕ) → length s ≤ n → Cut w at s

mark_of : (c : ℕ) → is_suffix c ≡ true → (c ≡ 33) ⊎ (c ≡ 63)
mark_of c e = grind arith

single_of : (k : Single) (b : ℕ) → ClassSays b (Class.Alone k) → IsSingle b (kind_of_single k)
single_of Single.LeftBracket b says = rw (eqb-true b 91 says) lexes.left_bracket
single_of Single.RightBracket b says = rw (eqb-true b 93 says) lexes.right_bracket
single_of Single.LeftParen b says = rw (eqb-true b 40 says) lexes.left_paren
single_of Single.RightParen b says = rw (eqb-true b 41 says) lexes.right_paren
single_of Single.Period b says = rw (eqb-true b 46 says) lexes.period
single_of Single.Asterisk b says = rw (eqb-true b 42 says) lexes.asterisk

module _ (n at : ℕ) (on : Further n) where
  abbrev Outer : Bool → List ℕ → Type 0
  Outer first s = Cut (lexes.outside first) at s

  one_token : (first : Bool) (run s : List ℕ) (k : Kind) → SpellsToken run s k → length s ≤ n → Outer first (run ++ s)
  one_token first run s k spelled short =
      let more = on _ _ s short in (_, lexes.token first at run s k _ spelled more.1)

  one_refusal : (first : Bool) (s : List ℕ) (m : ℕ) (r : LexReason) → Refuses s m r → Outer first s
  one_refusal first s m r bad = (_, lexes.refuses _ at m s r bad)

  a_symbol : (first : Bool) (b : ℕ) (bs : List ℕ) → starts_symbol b ≡ true
      → length bs ≤ n → Split continues_symbol bs → Outer first (b ∷ bs)
  a_symbol first b bs e short h =
      let less = h.shorter in
      rw h.cut (elim (cases_lt 255 _) [
        | inl long ↦ one_refusal first _ 0 _ (lexes.long_symbol b h.run h.rest e (h.all, h.stop) long)
        | inr fits ↦ one_token first (b ∷ h.run) h.rest _ (lexes.symbol b h.run h.rest e (h.all, h.stop) fits) (omega arith)
      ])

  a_glyph : (first : Bool) (bs : List ℕ) → length bs ≤ n → Split is_digit bs → Outer first (36 ∷ bs)
  a_glyph first bs short h = rw h.cut (cases _ h.all)
    where
      cases : (run : List ℕ) → list_all is_digit run ≡ true → Outer first (36 ∷ (run ++ h.rest))
      cases [] all = one_refusal first _ 0 _ (lexes.lone_dollar h.rest h.stop)
      cases (d ∷ ds) all =
          let less = h.shorter in
          let digits = and_parts (is_digit d) _ all in
          elim (cases_lt 255 _) [
            | inl large ↦ one_refusal first _ 0 _ (lexes.large_glyph d ds h.rest digits.0 (digits.1, h.stop) large)
            | inr small ↦ one_token first (36 ∷ d ∷ ds) h.rest _ (lexes.glyph d ds h.rest digits.0 (digits.1, h.stop) small) (omega arith)
          ]

  a_suffix : (first : Bool) (b : ℕ) (bs : List ℕ) → is_suffix b ≡ true → length bs ≤ n → Split is_suffix bs → Outer first (b ∷ bs)
  a_suffix first b bs e short h = rw h.cut (cases _ h.all)
    where
      less : length h.rest ≤ n
      less = let l = h.shorter in omega arith

      one : (c : ℕ) → is_suffix c ≡ true → (m : ℕ) × IsSuffix (c ∷ []) m
      one c e = elim (mark_of c e) [ inl e ↦ rw e (1, lexes.good) | inr e ↦ rw e (2, lexes.poor) ]

      two : (c d : ℕ) → is_suffix c ≡ true → is_suffix d ≡ true → (m : ℕ) × IsSuffix (c ∷ d ∷ []) m
      two c d e f =
          elim (mark_of c e) [
            | inl e ↦ rw e (elim (mark_of d f) [ inl f ↦ rw f (3, lexes.very_good) | inr f ↦ rw f (5, lexes.speculative) ])
            | inr e ↦ rw e (elim (mark_of d f) [ inl f ↦ rw f (6, lexes.questionable) | inr f ↦ rw f (4, lexes.very_poor) ])
          ]

      cases : (run : List ℕ) → list_all is_suffix run ≡ true → Outer first (b ∷ (run ++ h.rest))
      cases [] all = one_token first (b ∷ []) h.rest _ (lexes.suffix (b ∷ []) h.rest _ (one b e).1 h.stop) less
      cases (c ∷ []) all =
          one_token first (b ∷ c ∷ []) h.rest _
          (lexes.suffix (b ∷ c ∷ []) h.rest _ (two b c e (and_parts (is_suffix c) true all).0).1 h.stop) less
      cases (c ∷ d ∷ run) all = one_refusal first _ 0 _ (lexes.bad_suffix (b ∷ c ∷ d ∷ run) h.rest (both_true e all, h.stop) (omega arith))

  a_string : (first : Bool) (bs : List ℕ) → length bs ≤ n → HasData 0 bs → Outer first (34 ∷ bs)
  a_string first bs short h = rw h.cut (cases _ _ refl h.stop h.written h.shorter)
    where
      fit : length h.text ≤ 255
      fit = let f = h.fits in omega arith

      cases : (rest : List ℕ) (m : ℕ) → m ≡ 0 + length h.text → Stop m rest → Data h.raw h.text rest → length rest ≤ length bs
          → Outer first (34 ∷ (h.raw ++ rest))
      cases _ _ same (at_line_end m s stop) written less = one_refusal first _ 0 _ (lexes.open_string h.raw _ s written fit stop)
      cases _ _ same (at_quote m s) written less =
          rw (sym (append_assoc h.raw (34 ∷ []) s))
          (one_token first (34 ∷ (h.raw ++ 34 ∷ [])) s _ (lexes.string h.raw _ s written fit) (omega arith))
      cases _ _ same (at_barred m b s bad other) written less =
          one_refusal first _ (1 + length h.raw) _ (lexes.control_in_string b h.raw _ s written fit bad other)
      cases _ _ same (too_long m b s full more) written less = one_refusal first _ 0 _ (lexes.long_string b h.raw h.text s written (omega arith) more)

  from_outside : (first : Bool) (b : ℕ) (bs : List ℕ) → length bs ≤ n → (c : Class) → ClassSays b c → Outer first (b ∷ bs)
  from_outside first b bs short Class.LineEnd says =
      let more = on _ (at + 1) bs short in (_, lexes.space first at b bs more.0 (or_left _ _ says) more.1)
  from_outside first b bs short Class.Space says =
      let more = on (lexes.outside _) (at + 1) bs short in (_, lexes.space first at b bs more.0 (or_right _ _ says.1) more.1)
  from_outside false b bs short Class.Percent says = rw (eqb-true b 37 says) (_, lexes.stray_percent at bs)
  from_outside true b bs short Class.Percent says = rw (eqb-true b 37 says) (escape_line (split _ bs))
    where
      escape_line : Split (λ b. not (is_line_end b)) bs → Outer true (37 ∷ bs)
      escape_line h =
          let less = h.shorter in
          let more = on (lexes.outside false) (at + 1 + length h.run) h.rest (omega arith) in
          rw h.cut (_, lexes.escape_line at h.run h.rest more.0 (h.all, h.stop) more.1)
  from_outside first b bs short Class.SymbolStart says = a_symbol first b bs says short (split _ bs)
  from_outside first b bs short Class.Quote says =
      rw (eqb-true b 34 says) (a_string first bs short (has_data (length bs) 0 bs (omega arith) (omega arith)))
  from_outside first b bs short Class.Dollar says = rw (eqb-true b 36 says) (a_glyph first bs short (split _ bs))
  from_outside first b bs short Class.Suffix says = a_suffix first b bs says short (split _ bs)
  from_outside first b bs short Class.OpenBrace says =
      let more = on (lexes.comment true) (at + 1) bs short in rw (eqb-true b 123 says) (_, lexes.opens_brace first at bs more.0 more.1)
  from_outside first b bs short Class.Semicolon says =
      let more = on (lexes.comment false) (at + 1) bs short in rw (eqb-true b 59 says) (_, lexes.opens_line first at bs more.0 more.1)
  from_outside first b bs short (Class.Alone k) says = one_token first (b ∷ []) bs _ (lexes.single b bs _ (single_of k b says)) short
  from_outside first b bs short (Class.Refused Reserved) says = one_refusal first _ 0 _ (lexes.reserved b bs says)
  from_outside first b bs short (Class.Refused ControlByte) says = one_refusal first _ 0 _ (lexes.control_byte b bs says)
  from_outside first b bs short (Class.Refused StrayByte) says = one_refusal first _ 0 _ (lexes.stray b bs says)
  from_outside first b bs short (Class.Refused _) says = absurd says

  a_word : (braces : Bool) (b : ℕ) (bs : List ℕ) → continues_word b ≡ true → length bs ≤ n → Split continues_word bs
      → Cut (lexes.comment braces) at (b ∷ bs)
  a_word braces b bs e short h =
      let less = h.shorter in
      let more = on _ _ h.rest (omega arith) in
      rw h.cut (elim (cases_lt 79 _) [
        | inl long ↦ (_, lexes.long_word _ at b h.run h.rest e (h.all, h.stop) long)
        | inr fits ↦ (_, lexes.word braces at b h.run h.rest _ e (h.all, h.stop) fits more.1)
      ])

  from_comment : (braces : Bool) (b : ℕ) (bs : List ℕ) → length bs ≤ n → (c : CommentClass) → CommentSays b c
      → Cut (lexes.comment braces) at (b ∷ bs)
  from_comment braces b bs short CommentClass.WordByte says = a_word braces b bs says short (split _ bs)
  from_comment true b bs short CommentClass.LineEnd says =
      let more = on _ (at + 1) bs short in (_, lexes.between_words true at b bs _ (or_left _ _ says) refl more.1)
  from_comment false b bs short CommentClass.LineEnd says =
      let more = on _ (at + 1) bs short in (_, lexes.closes_line at b bs more.0 says more.1)
  from_comment braces b bs short CommentClass.Space says =
      let more = on _ (at + 1) bs short in
      (_, lexes.between_words braces at b bs _ (or_right _ _ says) (or_right braces _ (ap not (blank_class b says).1)) more.1)
  from_comment true b bs short CommentClass.CloseBrace says =
      let more = on _ (at + 1) bs short in rw (eqb-true b 125 says) (_, lexes.closes_brace at bs more.0 more.1)
  from_comment false b bs short CommentClass.CloseBrace says = rw (eqb-true b 125 says) (_, lexes.brace_in_line at bs)
  from_comment braces b bs short CommentClass.Control says = (_, lexes.control_in_comment braces at b bs says)

exists : (n : ℕ) → Further n
exists n (lexes.outside first) at [] short = (_, lexes.ends first at)
exists n (lexes.comment true) at [] short = (_, lexes.open_at_end at)
exists n (lexes.comment false) at [] short = (_, lexes.closed_at_end at)
exists zero w at (b ∷ bs) short = absurd (omega arith)
exists (suc n) (lexes.outside first) at (b ∷ bs) short = from_outside n at (exists n) first b bs (omega arith) (class b) (class_says b)
exists (suc n) (lexes.comment braces) at (b ∷ bs) short = from_comment n at (exists n) braces b bs (omega arith) _ (comment_says b)

cut_tokens : (w : Where) (at : ℕ) (s : List ℕ) → Cuts w at s (tokens_from at (within_of w) s)
cut_tokens w at s = let h = exists (length s) w at s (omega arith) in rw (cuts_is w at s h.0 h.1) at h.1

lexes_are : (s : List ℕ) (ts : List Token) → Lexes s ts → ts ≡ tokens_of s
lexes_are _ _ (lexes.marked s ts h) = cuts_is _ 3 s ts h
lexes_are _ _ (lexes.unmarked s ts none h) = cuts_is _ 0 s ts h ∙ sym (unmarked s none)

mark_cut : (s : List ℕ) → has_mark s ≡ true → (rest : List ℕ) × (s ≡ 239 ∷ 187 ∷ 191 ∷ rest)
mark_cut s h1 = grind arith

tokens_lex : (s : List ℕ) → Lexes s (tokens_of s)
tokens_lex s =
    elim (cases_Bool _) [
      | inl e ↦ let h = mark_cut s e in rw h.1 (lexes.marked h.0 _ (cut_tokens _ 3 h.0))
      | inr e ↦ rw (unmarked s e) (lexes.unmarked s _ e (cut_tokens _ 0 s))
    ]

pub lexes_once : LexesOnce
lexes_once s ts = (lexes_are s ts, λ e. rw e (tokens_lex s))
