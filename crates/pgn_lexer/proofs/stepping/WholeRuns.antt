-- Tokens and white space that lie in a piece as a whole: byte after byte gives the same.
use Rattle.pgn_lexer.specs.Class as classes
use Rattle.pgn_lexer.specs.Class.{Period}
use Rattle.pgn_lexer.specs.declared.partial_token.LexMode.TheVariants as modes
use Rattle.pgn_lexer.specs.Scanned.{token as token_scanned}
use Rattle.pgn_lexer.proofs.Words.{Begins, CommentEnd, Sign, longer_number, leb-true, IfSome, IsText, Option, Some, begin_outside, begins_in_comment, begins_outside, comment_class, kind_of_sign, ◌≡◌, Bool, ℕ, zero, suc, ◌+◌, ◌-◌, ◌*◌, ◌<◌, ◌≤◌, inl, inr, List, [], ◌∷◌, ◌++◌, length, get_or, take, drop, refl, sym, ap, subst, ◌∙◌, add-one, arith, true, false, take_all, length-take-le, LexMode, Class, LineEnd, Space, SymbolStart, Alone, LineStart, Outside, is_digit, is_space, class, str, glyph, Token, TokenForm, ByteResult, Ends, Kind, PartialToken, tokens_to_come, token_of, IsSound, HasNotFailed, begin_line, IsOutside, IsAfterByte, after_byte, Ran, RunsOut, RunsToToken, Standing, standing_at, Scans, IsRunIn, IsNumberIn, Set, Text, string_class, rules, take-suc, get_or-take, get_or-drop, length-drop, IsTrue, IsFalse, list_all, bytes_of, kind_of_text, longest_of, mode_behind, tokens_to_come_in, pending_in, IsBetween, IsWhole, Passes, ReadsBehind, is_passed, BeginsUnpassed, and_parts, eqb-true, none, over_space, over_token, common_steps}
use Rattle.pgn_lexer.proofs.bytes.ClassToTest.{ClassSays, class_says}
use Rattle.pgn_lexer.proofs.stepping.PieceByByte.{ran_none, ran_uses, ran_ends, ran_ends_before, takes_outside, takes_more, takes_text_end, takes_quote, takes_dollar, takes_digit, takes_glyph_end, takes_between, gap_begun, word_begun, close_begun}
use Rattle.pgn_lexer.proofs.stepping.ByteInText.{IsNoString}
use Rattle.pgn_lexer.proofs.stepping.RunsInPiece.{digit_starts, digits_in, number_in, symbol_in}
use Rattle.pgn_lexer.proofs.stepping.StandsAfterCalls.{scans_nothing, scans_token}

-- what is true of a value, if there is one
pub where_some : {T : Type 0} {P Q : T → Type 0} (o : Option T) → ((x : T) → P x → Q x) → IfSome o P → IfSome o Q
where_some o more h = search rules

-- ---- between tokens, and between the words of a comment

-- the stored place and text say nothing there
pub same_between : (m : LexMode) → IsBetween m → (place a b : ℕ) (x y s : List ℕ) → tokens_to_come_in m place a x s ≡ tokens_to_come_in m place b y s
same_between m h place a b x y s = grind arith

pub sound_between : (m : LexMode) → IsBetween m → (place a : ℕ) (x : List ℕ) → length x ≤ 255 → IsSound place (record { mode = m; at = a; text = x })
sound_between m h place a x room = grind arith

not_failed_between : (m : LexMode) → IsBetween m → HasNotFailed m
not_failed_between m h = grind arith

outside_between : (m : LexMode) → IsOutside m → IsBetween m
outside_between m h = grind arith

between_behind : (t : Text) → IsBetween (mode_behind t)
between_behind t = grind arith

comment_between : (l : CommentEnd) → IsBetween (LexMode.Comment l)
comment_between l = grind arith

module _ (place : ℕ) (old : PartialToken) (piece : List ℕ) (used : ℕ) (m : LexMode) (between : IsBetween m) (a b : ℕ) (x y : List ℕ)
    (room : length y ≤ 255) where
  abbrev this : PartialToken
  this = record { mode = m; at = a; text = x }

  abbrev that : PartialToken
  that = record { mode = m; at = b; text = y }

  same : (s : List ℕ) → tokens_to_come (place + used) this s ≡ tokens_to_come (place + used) that s
  same s = same_between m between (place + used) a b x y s

  token_alike : (t : Token) → RunsToToken place old piece t this used → RunsToToken place old piece t that used
  token_alike t r = search (rules, sound_between, not_failed_between, inl, same, inr)

  -- white space that is the whole piece
  out_alike : used ≡ length piece → 0 < used → Ran place old piece this used → RunsOut place old piece that used
  out_alike all some r = search (rules, sound_between, not_failed_between, tokens_to_come, take_all, same)

-- ---- tokens at the front of a piece

module _ (place : ℕ) (old : PartialToken) (piece : List ℕ) where
  -- what is held of a token that begins with the piece
  abbrev holding : LexMode → List ℕ → PartialToken
  holding mode text = record { mode = mode; at = place + 0; text = text }

  -- the first n bytes are a token, and its text is still held
  abbrev RunsTo : Kind → LexMode → List ℕ → ℕ → Type 0
  RunsTo k mode text n = RunsToToken place old piece (record { at = place + 0; kind = k }) (holding mode text) n

  -- behind it, anything may be held
  held_as : (k : Kind) (mode : LexMode) (text : List ℕ) (n : ℕ) → IsBetween mode → RunsTo k mode text n → (b : ℕ) (y : List ℕ) → length y ≤ 255
      → RunsToToken place old piece (record { at = place; kind = k }) (record { mode = mode; at = b; text = y }) n
  held_as k mode text n between runs b y room = grind (arith, place, room, runs, text, token_alike)

  -- bytes that each go on with the token, behind its first one
  ran_on : (mode : LexMode) (text : ℕ → List ℕ) (n : ℕ) → 0 < n → n ≤ length piece → Ran place old piece (holding mode (text 1)) 1
      → ((k : ℕ) → 0 < k → k < n → IsAfterByte (after_byte (place + k) (holding mode (text k)) (get_or piece k 0)) (holding mode (text (suc k))) ByteResult.Used)
      → Ran place old piece (holding mode (text n)) n
  ran_on mode text zero some within first more = absurd (omega arith)
  ran_on mode text (suc zero) some within first more = first
  ran_on mode text (suc (suc k)) some within first more =
      subst (Ran place old piece (holding mode (text (suc (suc k))))) (add-one (suc k))
      (ran_uses place old piece _ (suc k) (get_or piece (suc k) 0) (omega arith) refl
      (ran_on mode text (suc k) (omega arith) (omega arith) first (λ j later less. more j later (omega arith))) _
      (more (suc k) (omega arith) (omega arith)))

  -- a text, from its first byte on
  ran_text : (t : Text) → IsNoString t → (n : ℕ) → Ran place old piece (holding (LexMode.Text t) (take 1 piece)) 1
      → IsRunIn (bytes_of t) (longest_of t) piece n → RunsTo (kind_of_text t (take n piece)) (mode_behind t) (take n piece) n
  ran_text t runs n first is =
      let within = is.within in
      let few = is.few in
      let ran = ran_on (LexMode.Text t) (λ k. take k piece) n is.some (omega arith) first (λ k some less.
      let long : length (take k piece) ≡ k = length-take-le k piece (omega arith) in search (rules, takes_more, take-suc)) in
      ran_ends_before place old piece _ n (get_or piece n 0) within refl ran (TokenForm.Text t) _ (takes_text_end t runs _ _ _ _ refl is.ends refl)

  module _ (sound : IsSound place old) (outside : IsOutside old.mode) where
    at_start : Ran place old piece old 0
    at_start = grind (arith, not_failed_between, outside, outside_between, place, ran_none, sound)

    -- a first byte that ends no token
    first_byte : (c : Class) (new : PartialToken) → 0 < length piece → class (get_or piece 0 0) ≡ c
        → begin_line (place + 0) old (get_or piece 0 0) c ≡ begin_outside (place + 0) old (get_or piece 0 0) c
        → begin_outside (place + 0) old (get_or piece 0 0) c ≡ record { held = new; step = ByteResult.Used } → Ran place old piece new 1
    first_byte c new some is same begins =
        ran_uses place old piece old 0 (get_or piece 0 0) some refl at_start new
        (takes_outside _ _ _ _ _ c outside is same (rw begins (record { held = refl; step = refl })))

    -- a text that the first byte begins
    text_runs : (t : Text) → IsNoString t → (c : Class) (n : ℕ) → class (get_or piece 0 0) ≡ c
        → begin_line (place + 0) old (get_or piece 0 0) c ≡ begin_outside (place + 0) old (get_or piece 0 0) c
        → begin_outside (place + 0) old (get_or piece 0 0) c ≡ record { held = holding (LexMode.Text t) (get_or piece 0 0 ∷ []); step = ByteResult.Used }
        → IsRunIn (bytes_of t) (longest_of t) piece n → RunsTo (kind_of_text t (take n piece)) (mode_behind t) (take n piece) n
    text_runs t runs c n starts same begins is =
        let within = is.within in
        let one : take 1 piece ≡ get_or piece 0 0 ∷ [] = take-suc piece 0 0 (omega arith) in
        ran_text t runs n (rw one (first_byte c (holding (LexMode.Text t) (get_or piece 0 0 ∷ [])) (omega arith) starts same begins)) is

    -- a token of one byte
    single_runs : (c : Class) (m : LexMode) (form : TokenForm) → 0 < length piece → class (get_or piece 0 0) ≡ c
        → begin_outside (place + 0) old (get_or piece 0 0) c ≡ record { held = holding m old.text; step = Ends form }
        → begin_line (place + 0) old (get_or piece 0 0) c ≡ begin_outside (place + 0) old (get_or piece 0 0) c
        → RunsToToken place old piece (token_of form (holding m old.text)) (holding m old.text) 1
    single_runs c m form some is begins on = search (rules, ran_ends, at_start, takes_outside)

    -- a string without an escape
    string_runs : (n : ℕ) → IsRunIn Set.Data 256 piece n → get_or piece n 0 ≡ 34 → class (get_or piece 0 0) ≡ classes.Quote
        → RunsTo (str (take (n - 1) (drop 1 piece))) Outside (take (n - 1) (drop 1 piece)) (n + 1)
    string_runs n is ends quote =
        let within = is.within in
        let few = is.few in
        let first = first_byte classes.Quote (holding (LexMode.Text Text.Str) []) (omega arith) quote refl refl in
        let ran = ran_on (LexMode.Text Text.Str) (λ k. take (k - 1) (drop 1 piece)) n is.some (omega arith) first (λ k some less.
        let long : length (take (k - 1) (drop 1 piece)) ≡ k - 1 = length-take-le (k - 1) (drop 1 piece) (omega (arith, length-drop 1 piece)) in
        let next : get_or (drop 1 piece) (k - 1) 0 ≡ get_or piece k 0 = get_or-drop 1 piece (k - 1) 0 ∙ ap (λ i. get_or piece i 0) (omega arith) in
        let same : suc (k - 1) ≡ suc k - 1 = omega arith in
        let more : take (suc k - 1) (drop 1 piece) ≡ take (k - 1) (drop 1 piece) ++ get_or (drop 1 piece) (k - 1) 0 ∷ [] =
        rw same at (take-suc (drop 1 piece) (k - 1) 0 (omega (arith, length-drop 1 piece))) in
        takes_more Text.Str _ _ _ _ refl (is.all k some less) (omega (arith, long)) (rw (more, next) refl)) in
        ran_ends place old piece _ n (get_or piece n 0) within refl ran (TokenForm.Text Text.Str) _ (takes_quote _ _ _ _ refl (ap string_class ends) refl)

    -- a NAG
    ran_dollar : 1 < length piece → class (get_or piece 0 0) ≡ classes.Dollar → is_digit (get_or piece 1 0) ≡ true
        → Ran place old piece (holding (modes.Glyph (get_or piece 1 0 - 48)) old.text) 2
    ran_dollar long dollar digit =
        ran_uses place old piece _ 1 (get_or piece 1 0) long refl
        (first_byte classes.Dollar (holding modes.Dollar old.text) (omega arith) dollar refl refl) _ (takes_dollar _ _ _ _ refl digit refl)

    glyph_runs : (n number : ℕ) → n < length piece → is_digit (get_or piece n 0) ≡ false
        → Ran place old piece (holding (modes.Glyph number) old.text) n → RunsTo (glyph number) Outside old.text n
    glyph_runs n number within ends ran =
        ran_ends_before place old piece _ n (get_or piece n 0) within refl ran (TokenForm.Glyph number) _ (takes_glyph_end _ _ _ _ number refl ends refl)

  module _ (sound : IsSound place old) (l : CommentEnd) (in_comment : old.mode ≡ LexMode.Comment l) where
    at_start_comment : Ran place old piece old 0
    at_start_comment = grind (arith, comment_between, not_failed_between, place, ran_none, sound)

    ran_gap : (m : LexMode) → 0 < length piece → begins_in_comment l (comment_class (get_or piece 0 0)) ≡ Begins.Gap m
        → Ran place old piece (holding m old.text) 1
    ran_gap m some is =
        ran_uses place old piece old 0 (get_or piece 0 0) some refl at_start_comment _
        (takes_between l _ _ _ _ _ _ in_comment is (record { held = refl; step = refl }))

    word_runs : (t : Text) (n : ℕ) → begins_in_comment l (comment_class (get_or piece 0 0)) ≡ Begins.Text t → IsNoString t
        → IsRunIn (bytes_of t) (longest_of t) piece n → RunsTo (kind_of_text t (take n piece)) (mode_behind t) (take n piece) n
    word_runs t n begins runs is =
        let within = is.within in
        let one : take 1 piece ≡ get_or piece 0 0 ∷ [] = take-suc piece 0 0 (omega arith) in
        let first = ran_uses place old piece old 0 (get_or piece 0 0) (omega arith) refl at_start_comment (holding (LexMode.Text t) (take 1 piece))
        (takes_between l _ _ _ _ _ _ in_comment begins (rw one (record { held = refl; step = refl }))) in search (rules, ran_text)

    close_runs : (k : Sign) (m : LexMode) → 0 < length piece
        → begins_in_comment l (comment_class (get_or piece 0 0)) ≡ Begins.Alone k m → RunsTo (kind_of_sign k) m old.text 1
    close_runs k m some is =
        ran_ends place old piece old 0 (get_or piece 0 0) some refl at_start_comment (TokenForm.Sign k) _
        (takes_between l _ _ _ _ _ _ in_comment is (record { held = refl; step = refl }))

-- ---- the tokens that a piece begins with, outside comments

-- what a byte begins there, it begins in the first column too, but for a percent sign
pub string_begun : (c : Class) → begins_outside c ≡ Begins.Str → c ≡ classes.Quote
string_begun c begins = grind arith

pub dollar_begun : (c : Class) → begins_outside c ≡ Begins.Dollar → c ≡ classes.Dollar
dollar_begun c begins = grind arith

begun_is_no_string : (c : Class) (t : Text) → begins_outside c ≡ Begins.Text t → IsNoString t
begun_is_no_string c t begins = grind arith

text_on : (c : Class) (t : Text) → begins_outside c ≡ Begins.Text t → (place b : ℕ) (h : PartialToken) → begin_line place h b c ≡ begin_outside place h b c
text_on c t begins place b h = grind arith

alone_on : (c : Class) (k : Sign) (m : LexMode) → begins_outside c ≡ Begins.Alone k m → (place b : ℕ) (h : PartialToken)
    → begin_line place h b c ≡ begin_outside place h b c
alone_on c k m begins place b h = grind arith

alone_between : (c : Class) (k : Sign) (m : LexMode) → begins_outside c ≡ Begins.Alone k m → IsBetween m
alone_between c k m begins = grind arith

module _ (piece : List ℕ) where
  -- a token that the piece begins with, wherever it is read
  whole_of : (n : ℕ) (mode : LexMode) (k : Kind) (text : PartialToken → List ℕ) → 0 < n → n ≤ length piece → IsBetween mode
      → ((place : ℕ) (old : PartialToken) → IsSound place old → IsOutside old.mode → RunsTo place old piece k mode (text old) n) → IsWhole piece n mode k
  whole_of n mode k text some within between runs =
      record {
        some = some;
        within = within;
        between = between;
        runs = λ place old sound outside at y room. held_as place old piece k mode (text old) n between (runs place old sound outside) at y room;
      }

  whole_text : (t : Text) → IsNoString t → (c : Class) (n : ℕ) → class (get_or piece 0 0) ≡ c
      → ((place : ℕ) (old : PartialToken) → begin_line place old (get_or piece 0 0) c ≡ begin_outside place old (get_or piece 0 0) c)
      → ((place : ℕ) (old : PartialToken) → begin_outside place old (get_or piece 0 0) c
      ≡ record { held = record { mode = LexMode.Text t; at = place; text = get_or piece 0 0 ∷ [] }; step = ByteResult.Used })
      → IsRunIn (bytes_of t) (longest_of t) piece n → IsWhole piece n (mode_behind t) (kind_of_text t (take n piece))
  whole_text t runs c n starts same begins is =
      let within = is.within in
      whole_of n _ _ (λ old. take n piece) is.some (omega arith) (between_behind t)
      (λ place old sound outside. text_runs place old piece sound outside t runs c n starts (same (place + 0) old) (begins (place + 0) old) is)

  pub whole_begun : (t : Text) (n : ℕ) (mode : LexMode) (k : Kind) → begins_outside (class (get_or piece 0 0)) ≡ Begins.Text t → IsText t piece n mode k
      → IsWhole piece n mode k
  whole_begun t n mode k begins is =
      rw (is.behind, is.is)
      (whole_text t (begun_is_no_string _ t begins) _ n refl (λ place old. text_on _ t begins place (get_or piece 0 0) old) (λ place old. rw begins refl) is.run)

  pub whole_string : (n : ℕ) → IsRunIn Set.Data 256 piece n → get_or piece n 0 ≡ 34 → class (get_or piece 0 0) ≡ classes.Quote
      → IsWhole piece (n + 1) Outside (str (take (n - 1) (drop 1 piece)))
  whole_string n is ends quote =
      let within = is.within in
      whole_of (n + 1) _ _ (λ old. take (n - 1) (drop 1 piece)) (omega arith) (omega arith) tt
      (λ place old sound outside. string_runs place old piece sound outside n is ends quote)

  pub whole_alone : (k : Sign) (m : LexMode) → 0 < length piece → begins_outside (class (get_or piece 0 0)) ≡ Begins.Alone k m
      → IsWhole piece 1 m (kind_of_sign k)
  whole_alone k m some begins =
      whole_of 1 m (kind_of_sign k) (λ old. old.text) (omega arith) (omega arith) (alone_between _ k m begins)
      (λ place old sound outside. single_runs place old piece sound outside _ m (TokenForm.Sign k) some refl
      (rw begins refl) (alone_on _ k m begins (place + 0) (get_or piece 0 0) old))

  -- the digits of a NAG so far
  pub record GlyphSoFar (n number : ℕ) : Type 0 where
    pub ran : (place : ℕ) (old : PartialToken) → IsSound place old → IsOutside old.mode
        → Ran place old piece (record { mode = modes.Glyph number; at = place + 0; text = old.text }) n

  pub glyph_first : 1 < length piece → class (get_or piece 0 0) ≡ classes.Dollar → is_digit (get_or piece 1 0) ≡ true
      → GlyphSoFar 2 (get_or piece 1 0 - 48)
  glyph_first long dollar digit = record { ran = λ place old sound outside. ran_dollar place old piece sound outside long dollar digit }

  pub glyph_more : (n number : ℕ) → n < length piece → is_digit (get_or piece n 0) ≡ true → 10 * number + (get_or piece n 0 - 48) ≤ 255
      → GlyphSoFar n number → GlyphSoFar (n + 1) (10 * number + (get_or piece n 0 - 48))
  glyph_more n number within digit small so =
      record {
        ran = λ place old sound outside. ran_uses place old piece _ n (get_or piece n 0) within refl (so.ran place old sound outside) _
            (takes_digit _ _ _ _ number refl digit small refl);
      }

  pub whole_glyph : (n number : ℕ) → 0 < n → n < length piece → is_digit (get_or piece n 0) ≡ false → GlyphSoFar n number
      → IsWhole piece n Outside (glyph number)
  whole_glyph n number some within ends so =
      whole_of n _ _ (λ old. old.text) some (omega arith) tt
      (λ place old sound outside. glyph_runs place old piece sound outside n number within ends (so.ran place old sound outside))

pub longer_is : (n b m : ℕ) → Some m ≡ longer_number n b → (m ≡ 10 * n + (b - 48)) × (10 * n + (b - 48) ≤ 255)
longer_is n b m e = search (rules, leb-true)

-- ---- what the bytes of a number say of its text

all_digits : (n : ℕ) (xs : List ℕ) → ((i : ℕ) → i < n → is_digit (get_or xs i 0) ≡ true) → list_all is_digit (take n xs) ≡ true
all_digits zero xs h = refl
all_digits (suc n) [] h = refl
all_digits (suc n) (x ∷ xs) h = rw (h 0 (omega arith)) (all_digits n xs (λ i less. h (suc i) (omega arith)))

digits_all : (n : ℕ) (xs : List ℕ) → n ≤ length xs → list_all is_digit (take n xs) ≡ true → (i : ℕ) → i < n → is_digit (get_or xs i 0) ≡ true
digits_all n xs within h i less = grind (arith, common_steps, and_parts)

-- a symbol that is no number
symbol_unpassed : (n : ℕ) (xs : List ℕ) → IsRunIn Set.Symbol 255 xs n → BeginsUnpassed xs → (b : Bool) → list_all is_digit (take n xs) ≡ b → IsFalse b
symbol_unpassed n xs is unpassed false e = refl
symbol_unpassed n xs is unpassed true e =
    let within = is.within in
    absurd (unpassed.no_number n (number_in xs n (digits_all n xs (omega arith) e) is))

pub text_unpassed : (t : Text) (n : ℕ) (xs : List ℕ) (mode : LexMode) (k : Kind) → IsText t xs n mode k → BeginsUnpassed xs → IsFalse (is_passed k)
text_unpassed Text.Symbol n xs mode k is unpassed = rw is.is (symbol_unpassed n xs is.run unpassed _ refl)
text_unpassed t n xs mode k is unpassed = rw is.is (grind arith)

-- a token of one byte that is no period
pub alone_unpassed : (c : Class) (b : ℕ) (k : Sign) (m : LexMode) → class b ≡ c → begins_outside c ≡ Begins.Alone k m → (b ≡ 46 → ⊥)
    → IsFalse (is_passed (kind_of_sign k))
alone_unpassed c b k m is begins no_period = search (rules, eqb-true, class_says)

-- ---- what is passed, and the token behind it

pub sound_outside : (place : ℕ) (h : PartialToken) → IsOutside h.mode → length h.text ≤ 255 → IsSound place h
sound_outside place h outside room = sound_between h.mode (outside_between h.mode outside) place h.at h.text room

pub sound_in_comment : (l : CommentEnd) (place : ℕ) (h : PartialToken) → h.mode ≡ LexMode.Comment l → length h.text ≤ 255 → IsSound place h
sound_in_comment l place h in_comment room = sound_between h.mode (rw in_comment (comment_between l)) place h.at h.text room

white_line_end : (b : ℕ) → class b ≡ LineEnd → is_space b ≡ true
white_line_end b is = let e = subst (ClassSays b) is (class_says b) in rw e refl

white_blank : (b : ℕ) → class b ≡ Space → is_space b ≡ true
white_blank b is = let e = subst (ClassSays b) is (class_says b) in rw (e.0, e.1) refl

-- no token waits outside comments
none_waits : (m : LexMode) → IsOutside m → pending_in m ≡ 0
none_waits m outside = grind arith

pub passes_none : (skips : Bool) (place : ℕ) (h new : PartialToken) (piece : List ℕ) → new ≡ h → Passes skips (standing_at place h) piece (standing_at (place + 0) new) 0
passes_none skips place h new piece same =
    subst (λ l. Passes skips (standing_at place h) piece l 0) (ap (λ k. standing_at k h) (omega arith) ∙ ap (standing_at (place + 0)) (sym same)) none

abbrev pub into_mode : PartialToken → LexMode → PartialToken
into_mode h mode = record { mode = mode; at = h.at; text = h.text }

module _ (skips : Bool) (before : Standing) (place : ℕ) (h : PartialToken) (piece : List ℕ) (m : ℕ)
    (passes : Passes skips before piece (standing_at (place + m) h) m) where
  abbrev rest : List ℕ
  rest = drop m piece

  further : (n : ℕ) → (place + m) + n ≡ place + (m + n)
  further n = omega arith

  reads_behind : m < length piece → (n : ℕ) (t : Token) (mode : LexMode) → 0 < n → RunsToToken (place + m) h rest t (into_mode h mode) n
      → (IsTrue skips → IsFalse (is_passed t.kind)) → ReadsBehind skips before piece (standing_at (place + (m + n)) (into_mode h mode)) (m + n) t
  reads_behind within n t mode more runs not_passed =
      record {
        mid = standing_at (place + m) h;
        passed = m;
        count = n;
        all = refl;
        within = within;
        some = more;
        passes = passes;
        reads = subst (λ k. Scans (standing_at (place + m) h) rest (standing_at k (into_mode h mode)) n (token_scanned t)) (further n)
            (scans_token _ _ _ rest n t runs);
        not_passed = not_passed;
      }

  -- a token outside comments
  pub reads_whole : IsOutside h.mode → length h.text ≤ 255 → (n : ℕ) (mode : LexMode) (k : Kind) → IsWhole rest n mode k
      → (IsTrue skips → IsFalse (is_passed k)) → ReadsBehind skips before piece (standing_at (place + (m + n)) (into_mode h mode)) (m + n) (record { at = place + m; kind = k })
  reads_whole outside room n mode k is not_passed =
      let some = is.some in
      let within = is.within in
      reads_behind (omega (arith, length-drop m piece)) n _ mode is.some
      (is.runs (place + m) h (sound_outside (place + m) h outside room) outside h.at h.text room) not_passed

  module _ (within : m < length piece) (room : length h.text ≤ 255) where
    here : get_or rest 0 0 ≡ get_or piece m 0
    here = get_or-drop m piece 0 0 ∙ ap (λ i. get_or piece i 0) (omega arith)

    some : 0 < length rest
    some = omega (arith, length-drop m piece)

    over : (n : ℕ) (t : Token) (mode : LexMode) → 0 < n → RunsToToken (place + m) h rest t (into_mode h mode) n → IsTrue skips → IsTrue (is_passed t.kind)
        → Passes skips before piece (standing_at (place + (m + n)) (into_mode h mode)) (m + n)
    over n t mode more runs skipped passed =
        subst (λ k. Passes skips before piece (standing_at k (into_mode h mode)) (m + n)) (further n)
        (over_token _ _ m n t passes within more (scans_token _ _ _ rest n t runs) skipped passed)

    -- one byte of white space
    abbrev one : List ℕ
    one = take 1 rest

    one_long : length one ≡ 1
    one_long = length-take-le 1 rest (omega (arith, some))

    one_here : get_or one 0 0 ≡ get_or piece m 0
    one_here = get_or-take 1 rest 0 0 (omega arith) ∙ here

    space : (mode : LexMode) → pending_in mode ≤ pending_in h.mode → is_space (get_or piece m 0) ≡ true → RunsOut (place + m) h one (into_mode h mode) 1
        → Passes skips before piece (standing_at (place + (m + 1)) (into_mode h mode)) (m + 1)
    space mode waits is_white out =
        subst (λ k. Passes skips before piece (standing_at k (into_mode h mode)) (m + 1)) (further 1)
        (over_space _ _ m passes within is_white (scans_nothing _ _ _ one 1 out) waits)

    module _ (outside : IsOutside h.mode) where
      sound : IsSound (place + m) h
      sound = sound_outside (place + m) h outside room

      passes_into : (c : Class) (mode : LexMode) → class (get_or piece m 0) ≡ c → begin_line (place + m + 0) h (get_or one 0 0) c ≡ begin_outside (place + m + 0) h (get_or one 0 0) c
          → begin_outside (place + m + 0) h (get_or one 0 0) c ≡ record { held = holding (place + m) h one mode h.text; step = ByteResult.Used }
          → IsOutside mode → is_space (get_or piece m 0) ≡ true → Passes skips before piece (standing_at (place + (m + 1)) (into_mode h mode)) (m + 1)
      passes_into c mode is same begins into is_white =
          search (rules, none_waits, space, out_alike, outside_between, one_long, first_byte, sound, class, one_here)

      pub passes_line_end : class (get_or piece m 0) ≡ LineEnd → Passes skips before piece (standing_at (place + (m + 1)) (into_mode h LineStart)) (m + 1)
      passes_line_end is = grind (arith, passes_into, white_line_end)

      pub passes_space : class (get_or piece m 0) ≡ Space → Passes skips before piece (standing_at (place + (m + 1)) (into_mode h Outside)) (m + 1)
      passes_space is = passes_into Space Outside is refl refl tt (white_blank (get_or piece m 0) is)

      pub passes_period : IsTrue skips → get_or piece m 0 ≡ 46 → Passes skips before piece (standing_at (place + (m + 1)) (into_mode h Outside)) (m + 1)
      passes_period skipped is =
          over 1 _ Outside (omega arith) (held_as (place + m) h rest _ Outside _ 1 tt (single_runs (place + m) h rest sound outside (Alone Period) Outside
          (TokenForm.Sign Sign.Period) some (rw (here ∙ is) refl) refl refl) h.at h.text room) skipped refl

      pub passes_number : IsTrue skips → (n : ℕ) → IsNumberIn rest n → Passes skips before piece (standing_at (place + (m + n)) (into_mode h Outside)) (m + n)
      passes_number skipped n is =
          over n _ Outside is.run.some (held_as (place + m) h rest _ Outside _ n tt (text_runs (place + m) h rest sound outside Text.Symbol tt SymbolStart n (rw (digit_starts (get_or rest 0 0) is.first) refl) refl refl (symbol_in rest n is)) h.at h.text room)
          skipped (all_digits n rest (digits_in rest n is))

    module _ (l : CommentEnd) (in_comment : h.mode ≡ LexMode.Comment l) where
      sound_there : IsSound (place + m) h
      sound_there = sound_in_comment l (place + m) h in_comment room

      pub passes_gap : (mode : LexMode) → begins_in_comment l (comment_class (get_or piece m 0)) ≡ Begins.Gap mode
          → Passes skips before piece (standing_at (place + (m + 1)) (into_mode h (LexMode.Comment l))) (m + 1)
      passes_gap mode is = search (rules, gap_begun, ran_gap, sound_there, one_long, one_here, space, out_alike, comment_between)

      word_there : (t : Text) → Text.Word l ≡ t → (n : ℕ) (mode : LexMode) (k : Kind) → begins_in_comment l (comment_class (get_or piece m 0)) ≡ Begins.Text t
          → IsText t rest n mode k
          → ReadsBehind skips before piece (standing_at (place + (m + n)) (into_mode h (mode_behind t))) (m + n) (record { at = place + m; kind = k })
      word_there t same n mode k begins is =
          let between : IsBetween (mode_behind t) = between_behind t in
          rw is.is (reads_behind within n _ (mode_behind t) is.run.some
          (held_as (place + m) h rest _ (mode_behind t) _ n between
          (word_runs (place + m) h rest sound_there l in_comment t n (rw here begins) (subst IsNoString same tt) is.run) h.at h.text room)
          (λ skipped. subst (λ t. IsFalse (is_passed (kind_of_text t (take n rest)))) same refl))

      pub reads_word : (t : Text) (n : ℕ) (mode : LexMode) (k : Kind) → begins_in_comment l (comment_class (get_or piece m 0)) ≡ Begins.Text t
          → IsText t rest n mode k
          → ReadsBehind skips before piece (standing_at (place + (m + n)) (into_mode h (LexMode.Comment l))) (m + n) (record { at = place + m; kind = k })
      reads_word t n mode k begins is =
          let same : Text.Word l ≡ t = word_begun l _ t begins in
          subst (λ mode. ReadsBehind skips before piece (standing_at (place + (m + n)) (into_mode h mode)) (m + n) (record { at = place + m; kind = k }))
          (ap mode_behind (sym same)) (word_there t same n mode k begins is)

      pub reads_close : (k : Sign) (mode : LexMode) → begins_in_comment l (comment_class (get_or piece m 0)) ≡ Begins.Alone k mode
          → ReadsBehind skips before piece (standing_at (place + (m + 1)) (into_mode h mode)) (m + 1) (record { at = place + m; kind = kind_of_sign k })
      reads_close k mode is =
          let begun = close_begun l _ k mode is in
          reads_behind within 1 _ mode (omega arith)
          (held_as (place + m) h rest _ mode _ 1 begun.1 (close_runs (place + m) h rest sound_there l in_comment k mode some (rw here is)) h.at h.text room)
          (λ skipped. rw begun.0 refl)
