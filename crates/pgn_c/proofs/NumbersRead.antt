-- What the bytes of a game say of its move numbers, read in one pass.
use Rattle.pgn_c.proofs.Words.{rules, common_steps, Bool, cond, get_or, ap₂, ◌++◌, List, [], ◌∷◌, ap, sym, ◌∙◌, arith, drop, false, true, length, refl, suc, zero, subst, take, ℕ, ◌+◌, ◌-◌, ◌<◌, ◌≤◌, ◌≡◌, inl, inr, None, Option, Some, prefix_len, if◌then◌else◌, take_while, ◌==◌, ◌||◌, cases_Bool, eqb-true, or_cases, true≢false, prefix_len-le-length, take_while-cons, drop-drop, drop_more, length-drop, none-some, continues_symbol, is_space, is_blank, is_control, starts_symbol, is_digit, is_letter, is_line_end, is_suffix, Kind, Token, Within, after_brace, after_class, after_first, begins_class, begins_first, after_line, after_run, begins, begins_after, begins_brace, begins_line, next, onto, tokens_from, tokens_of, brace, brace_word, line, line_word, column, outside, in_symbol, in_glyph, in_suffix, in_escape_line, quotes, backslash, AreAccepted, Mark, digits_with, main_line, mark_of_period, mark_of_symbol, marks_behind, number_in, wrong_behind, wrong_number, depth_after, with_other, numbered_by, plies_after, with_period, with_symbol, wrong_at_period, wrong_of, wrong_in, has_brace, with_ply, begins_unusual, skipped, to_brace, to_line_end, to_quote}
use Rattle.pgn_lexer.specs.Class as classes
use Rattle.pgn_lexer.specs.Class.{Class}
use Rattle.pgn_lexer.specs.CommentClass.{CommentClass}
use Rattle.pgn_lexer.specs.CommentClass as comment_classes
use Rattle.pgn_lexer.specs.Spelling.{Found, Reading, class, comment_class, gives, glyph_at, nothing, reading, stops, string_at, suffix_at, symbol_at, word_at}
use Rattle.pgn_lexer.specs.Tokens as kinds
use Rattle.pgn_lexer.specs.TokensOf.{at_end}
use Rattle.pgn_c.specs.declared.move_numbers.Numbering.{Numbering}
use Rattle.pgn_c.specs.declared.move_numbers.Digits.{Digits}
use Rattle.pgn_c.specs.declared.move_numbers.WrongNumber.{WrongNumber}

-- ---- runs of a symbol, of a NAG and of a suffix

module _ (test : ℕ → Bool) (w : Within)
    (begun : (at b : ℕ) (bs : List ℕ) → begins at w b bs ≡ begins_after (test b) at (class b) b bs)
    (nexts : (b : ℕ) → next w b ≡ after_run (test b) w (class b))
    (ends : (at : ℕ) → at_end at w ≡ at_end at outside) where
  behind_byte : (at b : ℕ) (bs : List ℕ) (c : Bool) (n : ℕ)
      → tokens_from (at + 1) w bs ≡ tokens_from (at + 1 + n) outside (drop n bs)
      → onto at (begins_after c at (class b) b bs) (tokens_from (at + 1) (after_run c w (class b)) bs)
      ≡ tokens_from (at + cond c (1 + n) 0) outside (drop (cond c (1 + n) 0) (b ∷ bs))
  behind_byte at b bs true n more = grind arith
  behind_byte at b bs false n more = ap (λ m. tokens_from m outside (b ∷ bs)) (omega arith)

  pub behind_run : (at : ℕ) (s : List ℕ) → tokens_from at w s ≡ tokens_from (at + prefix_len test s) outside (drop (prefix_len test s) s)
  behind_run at [] = ends at ∙ ap (λ n. at_end n outside) (omega arith)
  behind_run at (b ∷ bs) = rw (begun at b bs, nexts b) (behind_byte at b bs (test b) (prefix_len test bs) (behind_run (at + 1) bs))

pub behind_symbol : (at : ℕ) (s : List ℕ) → tokens_from at in_symbol s ≡ tokens_from (at + prefix_len continues_symbol s) outside (drop (prefix_len continues_symbol s) s)
behind_symbol = behind_run continues_symbol in_symbol (λ at b bs. refl) (λ b. refl) (λ at. refl)

pub behind_glyph : (at : ℕ) (s : List ℕ) → tokens_from at in_glyph s ≡ tokens_from (at + prefix_len is_digit s) outside (drop (prefix_len is_digit s) s)
behind_glyph = behind_run is_digit in_glyph (λ at b bs. refl) (λ b. refl) (λ at. refl)

pub behind_suffix : (at : ℕ) (s : List ℕ) → tokens_from at in_suffix s ≡ tokens_from (at + prefix_len is_suffix s) outside (drop (prefix_len is_suffix s) s)
behind_suffix = behind_run is_suffix in_suffix (λ at b bs. refl) (λ b. refl) (λ at. refl)

-- ---- tokens that say nothing of the numbers

-- What begins at a byte says nothing of them, but that no period is behind the digits.
abbrev pub IsSilentKind : Kind → Type 0
IsSilentKind (kinds.symbol text) = ⊥
IsSilentKind kinds.period = ⊥
IsSilentKind kinds.left_paren = ⊥
IsSilentKind kinds.right_paren = ⊥
IsSilentKind (kinds.refused r) = ⊥
IsSilentKind _ = Unit {0}

abbrev pub IsSilent : Found → Type 0
IsSilent nothing = ⊥
IsSilent (gives k) = IsSilentKind k
IsSilent (stops at r) = Unit {0}

-- what is known behind such a token
abbrev pub silenced : Numbering → Numbering
silenced k = record { depth = k.depth; plies = k.plies; before = k.before; digits = None }

abbrev pub Passes : Numbering → List Token → Numbering → List Token → Type 0
Passes k ts k' ts' = AreAccepted ts → AreAccepted ts' × (wrong_in k ts ≡ wrong_in k' ts')

pub glyph_is_silent : (at : ℕ) (ds : List ℕ) → IsSilent (glyph_at at ds)
glyph_is_silent at ds = grind (arith, common_steps)

pub suffix_is_silent : (at b : ℕ) (bs : List ℕ) → IsSilent (suffix_at at (b ∷ bs))
suffix_is_silent at b bs = grind arith

pub word_is_silent : (at : ℕ) (run : List ℕ) → IsSilent (word_at at run)
word_is_silent at run = grind arith

pub string_is_silent : (r : Reading) → IsSilent (string_at r)
string_is_silent r = grind (arith, common_steps)

-- ---- comments in braces

-- the tokens behind the comment
abbrev behind_brace : ℕ → List ℕ → List Token
behind_brace at bs = tokens_from (at + to_brace bs) outside (drop (to_brace bs) bs)

-- the comment's tokens, between words and in one
abbrev BraceAt : Numbering → ℕ → List ℕ → Type 0
BraceAt k at bs =
    Passes (silenced k) (tokens_from at brace bs) (silenced k) (behind_brace at bs)
    × Passes (silenced k) (tokens_from at brace_word bs) (silenced k) (behind_brace at bs)

later : (at n b : ℕ) (bs : List ℕ) → tokens_from (at + (n + 1)) outside (drop (n + 1) (b ∷ bs)) ≡ tokens_from (at + 1 + n) outside (drop n bs)
later at n b bs = grind arith

not_close : (b : ℕ) → (b == 125) ≡ false → comment_class b ≡ comment_classes.CloseBrace → ⊥
not_close b e same = grind arith

brace_byte : (k : Numbering) (at b : ℕ) (bs : List ℕ) (goes : Bool) (c : CommentClass) → (c ≡ comment_classes.CloseBrace → ⊥) → BraceAt k (at + 1) bs
    → Passes (silenced k) (onto at (begins_brace at goes c b bs) (tokens_from (at + 1) (after_brace c) bs)) (silenced k) (behind_brace (at + 1) bs)
brace_byte k at b bs goes c other more = grind (arith, common_steps, word_is_silent)

brace_further : (at b : ℕ) (bs : List ℕ) → (b == 125) ≡ false → behind_brace at (b ∷ bs) ≡ behind_brace (at + 1) bs
brace_further at b bs e = rw e (later at (to_brace bs) b bs)

pub in_brace : (k : Numbering) (at : ℕ) (bs : List ℕ) → BraceAt k at bs
in_brace k at [] = (λ all. absurd all.0, λ all. absurd all.0)
in_brace k at (b ∷ bs) = grind (arith, common_steps, cases_Bool, eqb-true, brace_further, brace_byte, not_close, (in_brace k (at + 1) bs))

-- a comment goes on behind bytes without a brace
brace_behind : (n : ℕ) (s : List ℕ) (c : Bool) → (has_brace (take n s) ≡ false → to_brace s ≡ n + to_brace (drop n s)) → c || has_brace (take n s) ≡ false
    → (if c then 1 else to_brace s + 1) ≡ suc n + to_brace (drop n s)
brace_behind n s c more none = grind (arith, common_steps, true≢false)

no_brace : (n : ℕ) (s : List ℕ) → has_brace (take n s) ≡ false → n ≤ length s → to_brace s ≡ n + to_brace (drop n s)
no_brace zero s none few = omega arith
no_brace (suc n) [] none few = absurd (omega (arith, few))
no_brace (suc n) (b ∷ s) none few = brace_behind n s (b == 125) (λ rest. no_brace n s rest (omega (arith, few))) none

pub brace_ahead : (n at : ℕ) (s : List ℕ) → to_brace s ≡ at + to_brace (drop at s) → has_brace (take n (drop at s)) ≡ false → n ≤ length s - at → to_brace s ≡ at + n + to_brace (drop (at + n) s)
brace_ahead n at s so none few =
    let long = length-drop at s in
    let goes = no_brace n (drop at s) none (omega (arith, long, few)) in
    let rest : to_brace (drop n (drop at s)) ≡ to_brace (drop (at + n) s) = ap to_brace (drop-drop n at s) in
    omega (arith, so, goes, rest)

-- ---- comments to the end of a line, and escape lines

abbrev behind_line : ℕ → List ℕ → List Token
behind_line at bs = tokens_from (at + to_line_end bs) outside (drop (to_line_end bs) bs)

abbrev LineAt : Numbering → ℕ → List ℕ → Type 0
LineAt k at bs =
    Passes (silenced k) (tokens_from at line bs) (silenced k) (behind_line at bs)
    × Passes (silenced k) (tokens_from at line_word bs) (silenced k) (behind_line at bs)

not_end : (b : ℕ) → is_line_end b ≡ false → comment_class b ≡ comment_classes.LineEnd → ⊥
not_end b e same = grind arith

line_byte : (k : Numbering) (at b : ℕ) (bs : List ℕ) (goes : Bool) (c : CommentClass) → (c ≡ comment_classes.LineEnd → ⊥) → LineAt k (at + 1) bs
    → Passes (silenced k) (onto at (begins_line at goes c b bs) (tokens_from (at + 1) (after_line c) bs)) (silenced k) (behind_line (at + 1) bs)
line_byte k at b bs goes c other more = grind (arith, common_steps, word_is_silent)

-- an end of a line is one of two bytes
ends_line : (P : ℕ → Type 0) (b : ℕ) → is_line_end b ≡ true → P 10 → P 13 → P b
ends_line P b e feed return = grind (arith, common_steps, or_cases, eqb-true)

line_further : (at b : ℕ) (bs : List ℕ) → is_line_end b ≡ false → behind_line at (b ∷ bs) ≡ behind_line (at + 1) bs
line_further at b bs e = grind (arith, later)

pub in_line : (k : Numbering) (at : ℕ) (bs : List ℕ) → LineAt k at bs
in_line k at [] = (λ all. (all.1, refl), λ all. (all.1, refl))
in_line k at (b ∷ bs) = search (rules, cases_Bool, line_further, line_byte, not_end, (in_line k (at + 1) bs))

pub in_escape : (at : ℕ) (bs : List ℕ) → tokens_from at in_escape_line bs ≡ behind_line at bs
in_escape at [] = ap (λ n. at_end n outside) (omega arith)
in_escape at (b ∷ bs) = grind (arith, common_steps, cases_Bool, line_further, (in_escape (at + 1) bs))

-- ---- strings

abbrev behind_quote : Bool → ℕ → List ℕ → List Token
behind_quote escaping at bs = tokens_from (at + to_quote escaping bs) outside (drop (to_quote escaping bs) bs)

abbrev QuoteAt : ℕ → List ℕ → Type 0
QuoteAt at bs = (tokens_from at quotes bs ≡ behind_quote false at bs) × (tokens_from at backslash bs ≡ behind_quote true at bs)

quote_byte : (at b : ℕ) (bs : List ℕ) → QuoteAt (at + 1) bs → tokens_from at quotes (b ∷ bs) ≡ behind_quote false at (b ∷ bs)
quote_byte at b bs more = grind (arith, common_steps, cases_Bool, eqb-true)

pub in_quotes : (at : ℕ) (bs : List ℕ) → QuoteAt at bs
in_quotes at [] = (ap (λ n. at_end n outside) (omega arith), ap (λ n. at_end n outside) (omega arith))
in_quotes at (b ∷ bs) =
    let more = in_quotes (at + 1) bs in
    (quote_byte at b bs more, more.0 ∙ sym (later at (to_quote false bs) b bs))

-- ---- one turn of the loop

-- outside tokens, comments and strings
abbrev pub IsBetween : Within → Type 0
IsBetween column = Unit {0}
IsBetween outside = Unit {0}
IsBetween _ = ⊥

-- The tokens from a place on, where the text r is left, have no error, and the number that is found
-- in them is this one.
pub record AheadOf (k : Numbering) (at : ℕ) (r : List ℕ) (found : Option WrongNumber) : Type 0 where
  pub within : Within
  pub between : IsBetween within
  pub accepted : AreAccepted (tokens_from at within r)
  pub same : wrong_in k (tokens_from at within r) ≡ found

abbrev is_percent : Class → Bool
is_percent classes.Percent = true
is_percent _ = false

-- in the first column only a percent sign is another byte than elsewhere
first_is : (at b : ℕ) (bs : List ℕ) (c : Class) → is_percent c ≡ false
    → onto at (begins_first at c b bs) (tokens_from (at + 1) (after_first c) bs) ≡ onto at (begins_class at c b bs) (tokens_from (at + 1) (after_class c) bs)
first_is at b bs c other = grind (arith, common_steps, true≢false)

neither : (c : Bool) (x y : Class) → is_percent x ≡ false → is_percent y ≡ false → is_percent (if c then x else y) ≡ false
neither c x y e f = grind (arith, common_steps)

not_percent : (b : ℕ) → (b == 37) ≡ false → is_percent (class b) ≡ false
not_percent b e = grind (arith, common_steps, neither)

-- so of another byte the tokens are those outside
pub record AheadOutside (k : Numbering) (at b : ℕ) (bs : List ℕ) (found : Option WrongNumber) : Type 0 where
  pub accepted : AreAccepted (tokens_from at outside (b ∷ bs))
  pub same : wrong_in k (tokens_from at outside (b ∷ bs)) ≡ found

in_column : (k : Numbering) (at b : ℕ) (bs : List ℕ) (found : Option WrongNumber) (w : Within) → (b == 37) ≡ false → IsBetween w → AreAccepted (tokens_from at w (b ∷ bs))
    → wrong_in k (tokens_from at w (b ∷ bs)) ≡ found → AheadOutside k at b bs found
in_column k at b bs found outside e is all same = record { accepted = all; same = same }
in_column k at b bs found column e is all same =
    let first = first_is at b bs (class b) (not_percent b e) in
    record { accepted = subst AreAccepted first all; same = ap (wrong_in k) (sym first) ∙ same }
in_column k at b bs found _ e is all same = absurd is

pub ahead_outside : (k : Numbering) (at b : ℕ) (bs : List ℕ) (found : Option WrongNumber) → (b == 37) ≡ false → AheadOf k at (b ∷ bs) found → AheadOutside k at b bs found
ahead_outside k at b bs found e so = in_column k at b bs found so.within e so.between so.accepted so.same

-- ---- a symbol

run_by : (p : ℕ → Bool) (b : ℕ) (bs : List ℕ) (c : Bool) → take_while p bs ≡ take (prefix_len p bs) bs
    → cond c (b ∷ take_while p bs) [] ≡ take (cond c (1 + prefix_len p bs) 0) (b ∷ bs)
run_by p b bs true more = grind arith
run_by p b bs false more = refl

take_while_is : (p : ℕ → Bool) (s : List ℕ) → take_while p s ≡ take (prefix_len p s) s
take_while_is p s = grind (arith, common_steps, take_while-cons, run_by)

pub continues : (b : ℕ) → starts_symbol b ≡ true → continues_symbol b ≡ true
continues b e = rw e refl

front_of_run : (p : ℕ → Bool) (b : ℕ) (bs : List ℕ) → p b ≡ true → b ∷ take_while p bs ≡ take (prefix_len p (b ∷ bs)) (b ∷ bs)
front_of_run p b bs e = rw e (run_by p b bs true (take_while_is p bs))

symbol_is : (b : ℕ) (bs : List ℕ) → starts_symbol b ≡ true → b ∷ take_while continues_symbol bs ≡ take (prefix_len continues_symbol (b ∷ bs)) (b ∷ bs)
symbol_is b bs e = front_of_run continues_symbol b bs (continues b e)

ply_goes : (depth plies : ℕ) (before : Option ℕ) (at : ℕ) (n : Option ℕ) (ts : List Token)
    → wrong_behind before plies (main_line depth (mark_of_symbol n ++ marks_behind (digits_with at n) ts))
    ≡ wrong_behind before (plies_after depth plies n) (main_line depth (marks_behind (digits_with at n) ts))
ply_goes depth plies before at n ts = grind (arith, common_steps)

-- a symbol is given, since no error is
symbol_given : (k : Numbering) (at : ℕ) (text : List ℕ) (ts : List Token) → AreAccepted (onto at (symbol_at at text) ts)
    → AreAccepted ts × (wrong_in k (onto at (symbol_at at text) ts) ≡ wrong_in (with_symbol k at text) ts)
symbol_given k at text ts = grind (arith, common_steps, length, ply_goes)

symbol_tokens : (at b : ℕ) (bs : List ℕ) → starts_symbol b ≡ true
    → tokens_from at outside (b ∷ bs) ≡ onto at (symbol_at at (take (prefix_len continues_symbol (b ∷ bs)) (b ∷ bs)))
    (tokens_from (at + prefix_len continues_symbol (b ∷ bs)) outside (drop (prefix_len continues_symbol (b ∷ bs)) (b ∷ bs)))
symbol_tokens at b bs e =
    let front : tokens_from at outside (b ∷ bs) ≡ onto at (symbol_at at (b ∷ take_while continues_symbol bs)) (tokens_from (at + 1) in_symbol bs) = rw e refl in
    let goes : tokens_from at in_symbol (b ∷ bs) ≡ tokens_from (at + 1) in_symbol bs = rw (continues b e) refl in
    front ∙ ap₂ (λ text ts. onto at (symbol_at at text) ts) (symbol_is b bs e) (sym goes ∙ behind_symbol at (b ∷ bs))

not_37 : (b : ℕ) → starts_symbol b ≡ true → (b == 37) ≡ false
not_37 b e = grind arith

pub symbol_goes : (k : Numbering) (at b : ℕ) (bs : List ℕ) (found : Option WrongNumber) → starts_symbol b ≡ true → AheadOf k at (b ∷ bs) found
    → AheadOf (with_symbol k at (take (prefix_len continues_symbol (b ∷ bs)) (b ∷ bs))) (at + prefix_len continues_symbol (b ∷ bs)) (drop (prefix_len continues_symbol (b ∷ bs)) (b ∷ bs)) found
symbol_goes k at b bs found e so =
    let out = ahead_outside k at b bs found (not_37 b e) so in
    let tokens = symbol_tokens at b bs e in
    let given = symbol_given k at _ _ (subst AreAccepted tokens out.accepted) in
    record { within = outside; between = tt; accepted = given.0; same = sym given.1 ∙ ap (wrong_in k) (sym tokens) ∙ out.same }

-- ---- a period

period_goes_on : (k : Numbering) (depth : ℕ) (digits : Option Digits) (ms : List Mark) → wrong_of depth k.plies k.before digits ≡ None
    → wrong_behind k.before k.plies (main_line depth (mark_of_period digits ++ ms))
    ≡ wrong_behind (numbered_by k depth digits).before (numbered_by k depth digits).plies (main_line (numbered_by k depth digits).depth ms)
period_goes_on k depth digits ms e = grind (arith, common_steps, none-some)

no_digits : (k : Numbering) (depth : ℕ) (digits : Option Digits) → (numbered_by k depth digits).digits ≡ None
no_digits k depth digits = grind (arith, common_steps)

pub period_goes : (k : Numbering) (at : ℕ) (bs : List ℕ) (found : Option WrongNumber) → wrong_at_period k ≡ None → AheadOf k at (46 ∷ bs) found
    → AheadOf (with_period k) (at + 1) bs found
period_goes k at bs found none so =
    let out = ahead_outside k at 46 bs found refl so in
    let ts = tokens_from (at + 1) outside bs in
    record {
      within = outside;
      between = tt;
      accepted = out.accepted.1;
      same = rw (no_digits k k.depth k.digits) (sym (period_goes_on k k.depth k.digits (marks_behind None ts) none) ∙ out.same);
    }

wrong_found : (k : Numbering) (depth : ℕ) (before : Option ℕ) (digits : Option Digits) (ms : List Mark) (wrong : WrongNumber) → wrong_of depth k.plies before digits ≡ Some wrong
    → Some wrong ≡ wrong_behind before k.plies (main_line depth (mark_of_period digits ++ ms))
wrong_found k depth before digits ms wrong e = grind arith

pub wrong_is_found : (k : Numbering) (at : ℕ) (bs : List ℕ) (found : Option WrongNumber) (wrong : WrongNumber) → wrong_at_period k ≡ Some wrong → AheadOf k at (46 ∷ bs) found
    → Some wrong ≡ found
wrong_is_found k at bs found wrong e so = grind (arith, common_steps, ahead_outside, wrong_found)

-- ---- any other byte

-- what is ahead behind it
abbrev Goes : Numbering → ℕ → ℕ → List ℕ → Option WrongNumber → Type 0
Goes k at b bs found = AheadOf (with_other k b) (at + 1 + skipped b bs) (drop (skipped b bs) bs) found

-- ahead outside, behind the tokens of this byte
ahead_at : (k : Numbering) (at : ℕ) (r : List ℕ) (found : Option WrongNumber) → AreAccepted (tokens_from at outside r)
    → wrong_in k (tokens_from at outside r) ≡ found → AheadOf k at r found
ahead_at k at r found all same = record { within = outside; between = tt; accepted = all; same = same }

module _ (k : Numbering) (at : ℕ) (bs : List ℕ) (found : Option WrongNumber) where
  -- a byte that nothing belongs to
  alone : (k' : Numbering) (w : Within) → IsBetween w → AreAccepted (tokens_from (at + 1) w bs) → wrong_in k' (tokens_from (at + 1) w bs) ≡ found
      → AheadOf k' (at + 1 + 0) (drop 0 bs) found
  alone k' w is all same =
      subst (λ n. AheadOf k' n bs found) (omega arith) (record { within = w; between = is; accepted = all; same = same })

  percent_goes : AheadOf k at (37 ∷ bs) found → Goes k at 37 bs found
  percent_goes so = by_within so.within so.between so.accepted so.same
    where
      by_within : (w : Within) → IsBetween w → AreAccepted (tokens_from at w (37 ∷ bs)) → wrong_in k (tokens_from at w (37 ∷ bs)) ≡ found → Goes k at 37 bs found
      by_within column is all same = grind (arith, common_steps, in_escape, ahead_at)
      by_within outside is all same = absurd all.0
      by_within _ is all same = absurd is

  brace_goes : AheadOutside k at 123 bs found → Goes k at 123 bs found
  brace_goes out =
      let rest = (in_brace k (at + 1) bs).0 out.accepted.1 in
      ahead_at (silenced k) _ _ found rest.0 (sym rest.1 ∙ out.same)

  line_goes : AheadOutside k at 59 bs found → Goes k at 59 bs found
  line_goes out =
      let rest = (in_line k (at + 1) bs).0 out.accepted.1 in
      ahead_at (silenced k) _ _ found rest.0 (sym rest.1 ∙ out.same)

  -- a token that says nothing, and a run of its bytes
  silent_goes : (f : Found) (w : Within) (n : ℕ) → IsSilent f → tokens_from (at + 1) w bs ≡ tokens_from (at + 1 + n) outside (drop n bs)
      → AreAccepted (onto at f (tokens_from (at + 1) w bs)) → wrong_in k (onto at f (tokens_from (at + 1) w bs)) ≡ found
      → AheadOf (silenced k) (at + 1 + n) (drop n bs) found
  silent_goes f w n is behind all same = grind (arith, common_steps, ahead_at)

  quote_goes : AheadOutside k at 34 bs found → Goes k at 34 bs found
  quote_goes out = silent_goes _ quotes (to_quote false bs) (string_is_silent (reading at (at + 1) 0 false bs)) (in_quotes (at + 1) bs).0 out.accepted out.same

  dollar_goes : AheadOutside k at 36 bs found → Goes k at 36 bs found
  dollar_goes out = silent_goes _ in_glyph (prefix_len is_digit bs) (glyph_is_silent at (take_while is_digit bs)) (behind_glyph (at + 1) bs) out.accepted out.same

  mark_goes : AheadOutside k at 33 bs found → Goes k at 33 bs found
  mark_goes out = silent_goes _ in_suffix (prefix_len is_suffix bs) (suffix_is_silent at 33 (take_while is_suffix bs)) (behind_suffix (at + 1) bs) out.accepted out.same

  question_goes : AheadOutside k at 63 bs found → Goes k at 63 bs found
  question_goes out = silent_goes _ in_suffix (prefix_len is_suffix bs) (suffix_is_silent at 63 (take_while is_suffix bs)) (behind_suffix (at + 1) bs) out.accepted out.same

  left_paren_goes : AheadOutside k at 40 bs found → Goes k at 40 bs found
  left_paren_goes out = alone _ outside tt out.accepted.1 out.same

  right_paren_goes : AheadOutside k at 41 bs found → Goes k at 41 bs found
  right_paren_goes out = alone _ outside tt out.accepted.1 out.same

  left_bracket_goes : AheadOutside k at 91 bs found → Goes k at 91 bs found
  left_bracket_goes out = alone _ outside tt out.accepted.1 out.same

  right_bracket_goes : AheadOutside k at 93 bs found → Goes k at 93 bs found
  right_bracket_goes out = alone _ outside tt out.accepted.1 out.same

  asterisk_goes : AheadOutside k at 42 bs found → Goes k at 42 bs found
  asterisk_goes out = alone _ outside tt out.accepted.1 out.same

  -- a byte of white space, of which this is one
  line_end_goes : (b : ℕ) → is_line_end b ≡ true → AheadOutside k at b bs found → Goes k at b bs found
  line_end_goes b e = ends_line (λ c. AheadOutside k at c bs found → Goes k at c bs found) b e
      (λ out. alone k column tt out.accepted out.same) (λ out. alone k column tt out.accepted out.same)

  blank_goes : (b : ℕ) → is_blank b ≡ true → AheadOutside k at b bs found → Goes k at b bs found
  blank_goes b e = elim (or_cases ((b == 9) || (b == 11) || (b == 12)) (b == 32) e) [
    | inr is ↦ rw (eqb-true b 32 is) (λ out. alone k outside tt out.accepted out.same)
    | inl f ↦ elim (or_cases ((b == 9) || (b == 11)) (b == 12) f) [
      | inr is ↦ rw (eqb-true b 12 is) (λ out. alone k outside tt out.accepted out.same)
      | inl g ↦ elim (or_cases (b == 9) (b == 11) g) [
        | inl is ↦ rw (eqb-true b 9 is) (λ out. alone k outside tt out.accepted out.same)
        | inr is ↦ rw (eqb-true b 11 is) (λ out. alone k outside tt out.accepted out.same)
      ]
    ]
  ]

  suffix_goes : (b : ℕ) → is_suffix b ≡ true → AheadOutside k at b bs found → Goes k at b bs found
  suffix_goes b e = search (rules, or_cases, eqb-true, mark_goes, question_goes)

-- all other bytes are rejected
abbrev IsRefused : Class → Type 0
IsRefused (classes.Refused r) = Unit {0}
IsRefused _ = ⊥

refused_if : (c : Bool) (x y : Class) → IsRefused x → IsRefused y → IsRefused (if c then x else y)
refused_if c x y h i = grind (arith, common_steps)

refused_stops : (at b : ℕ) (bs : List ℕ) (c : Class) (ts : List Token) → IsRefused c → AreAccepted (onto at (begins_class at c b bs) ts) → ⊥
refused_stops at b bs c ts is all = grind (arith, common_steps)

-- no test of `class` holds before the last ones
pub record IsNoOther (b : ℕ) : Type 0 where
  pub symbol : starts_symbol b ≡ false
  pub line_end : is_line_end b ≡ false
  pub blank : is_blank b ≡ false
  pub suffix : is_suffix b ≡ false
  pub percent : (b == 37) ≡ false
  pub quote : (b == 34) ≡ false
  pub dollar : (b == 36) ≡ false
  pub brace : (b == 123) ≡ false
  pub semicolon : (b == 59) ≡ false
  pub left_bracket : (b == 91) ≡ false
  pub right_bracket : (b == 93) ≡ false
  pub left_paren : (b == 40) ≡ false
  pub right_paren : (b == 41) ≡ false
  pub period : (b == 46) ≡ false
  pub asterisk : (b == 42) ≡ false

refused_class : (b : ℕ) → IsNoOther b → IsRefused (class b)
refused_class b no_other =
    rw (
      no_other.symbol,
      no_other.line_end,
      no_other.blank,
      no_other.suffix,
      no_other.percent,
      no_other.quote,
      no_other.dollar,
      no_other.brace,
      no_other.semicolon,
      no_other.left_bracket,
      no_other.right_bracket,
      no_other.left_paren,
      no_other.right_paren,
      no_other.period,
      no_other.asterisk,
    )
    (refused_if ((b == 60) || (b == 62)) _ _ tt (refused_if (is_control b) _ _ tt tt))

rest_goes : (k : Numbering) (at b : ℕ) (bs : List ℕ) (found : Option WrongNumber) → IsNoOther b → AheadOutside k at b bs found → Goes k at b bs found
rest_goes k at b bs found no_other out = absurd (refused_stops at b bs (class b) _ (refused_class b no_other) out.accepted)

pub other_goes : (k : Numbering) (at b : ℕ) (bs : List ℕ) (found : Option WrongNumber) → starts_symbol b ≡ false → (b == 46) ≡ false → AheadOf k at (b ∷ bs) found
    → Goes k at b bs found
other_goes k at b bs found symbol period so = elim (cases_Bool (b == 37)) [
  | inl e ↦ subst (λ c. AheadOf k at (c ∷ bs) found → Goes k at c bs found) (sym (eqb-true b 37 e)) (percent_goes k at bs found) so
  | inr percent ↦ outside_goes percent (ahead_outside k at b bs found percent so)
]
  where
    at_byte : (n : ℕ) → (b == n) ≡ true → (AheadOutside k at n bs found → Goes k at n bs found) → AheadOutside k at b bs found → Goes k at b bs found
    at_byte n e goes = subst (λ c. AheadOutside k at c bs found → Goes k at c bs found) (sym (eqb-true b n e)) goes

    outside_goes : (b == 37) ≡ false → AheadOutside k at b bs found → Goes k at b bs found
    outside_goes percent out = elim (cases_Bool (b == 123)) [
      | inl e ↦ at_byte 123 e (brace_goes k at bs found) out
      | inr no_brace ↦ elim (cases_Bool (b == 59)) [
        | inl e ↦ at_byte 59 e (line_goes k at bs found) out
        | inr semicolon ↦ elim (cases_Bool (b == 34)) [
          | inl e ↦ at_byte 34 e (quote_goes k at bs found) out
          | inr quote ↦ elim (cases_Bool (b == 36)) [
            | inl e ↦ at_byte 36 e (dollar_goes k at bs found) out
            | inr dollar ↦ elim (cases_Bool (is_suffix b)) [
              | inl e ↦ suffix_goes k at bs found b e out
              | inr suffix ↦ elim (cases_Bool (is_line_end b)) [
                | inl e ↦ line_end_goes k at bs found b e out
                | inr line_end ↦ elim (cases_Bool (is_blank b)) [
                  | inl e ↦ blank_goes k at bs found b e out
                  | inr blank ↦ elim (cases_Bool (b == 40)) [
                    | inl e ↦ at_byte 40 e (left_paren_goes k at bs found) out
                    | inr left_paren ↦ elim (cases_Bool (b == 41)) [
                      | inl e ↦ at_byte 41 e (right_paren_goes k at bs found) out
                      | inr right_paren ↦ elim (cases_Bool (b == 91)) [
                        | inl e ↦ at_byte 91 e (left_bracket_goes k at bs found) out
                        | inr left_bracket ↦ elim (cases_Bool (b == 93)) [
                          | inl e ↦ at_byte 93 e (right_bracket_goes k at bs found) out
                          | inr right_bracket ↦ elim (cases_Bool (b == 42)) [
                            | inl e ↦ at_byte 42 e (asterisk_goes k at bs found) out
                            | inr asterisk ↦ rest_goes k at b bs found (record {
                              symbol = symbol;
                              line_end = line_end;
                              blank = blank;
                              suffix = suffix;
                              percent = percent;
                              quote = quote;
                              dollar = dollar;
                              brace = no_brace;
                              semicolon = semicolon;
                              left_bracket = left_bracket;
                              right_bracket = right_bracket;
                              left_paren = left_paren;
                              right_paren = right_paren;
                              period = period;
                              asterisk = asterisk;
                            }) out
                          ]
                        ]
                      ]
                    ]
                  ]
                ]
              ]
            ]
          ]
        ]
      ]
    ]

-- ---- the turns of the loop

-- what each turn keeps, of the text s
pub record Turn (s : List ℕ) (k : Numbering) (at : ℕ) : Type 0 where
  pub within : at ≤ length s
  pub depth : k.depth ≤ at
  pub plies : k.plies ≤ at
  pub ahead : AreAccepted (tokens_of s) → AheadOf k at (drop at s) (wrong_number (tokens_of s))

letter_is_no_digit : (b : ℕ) → is_letter b ≡ true → is_digit b ≡ false
letter_is_no_digit b e = grind arith

pub starts_by : (b : ℕ) → is_digit b ≡ true → starts_symbol b ≡ true
starts_by b e = grind (arith, common_steps)

pub starts_by_none : (b : ℕ) → is_letter b ≡ false → is_digit b ≡ false → starts_symbol b ≡ false
starts_by_none b e f = rw (e, f) refl

-- white space is no other byte
pub record IsWhite (b : ℕ) : Type 0 where
  pub symbol : starts_symbol b ≡ false
  pub period : (b == 46) ≡ false
  pub behind : (s : List ℕ) → skipped b s ≡ 0
  pub usual : (s : List ℕ) → begins_unusual b s ≡ false

pub white : (b : ℕ) → is_space b ≡ true → IsWhite b
white b e = elim (or_cases (is_line_end b) (is_blank b) e) [
  | inl f ↦ ends_line IsWhite b f (record { symbol = refl; period = refl; behind = λ s. refl; usual = λ s. refl }) (record { symbol = refl; period = refl; behind = λ s. refl; usual = λ s. refl })
  | inr f ↦ elim (or_cases ((b == 9) || (b == 11) || (b == 12)) (b == 32) f) [
    | inr is ↦ rw (eqb-true b 32 is) (record { symbol = refl; period = refl; behind = λ s. refl; usual = λ s. refl })
    | inl g ↦ elim (or_cases ((b == 9) || (b == 11)) (b == 12) g) [
      | inr is ↦ rw (eqb-true b 12 is) (record { symbol = refl; period = refl; behind = λ s. refl; usual = λ s. refl })
      | inl h ↦ elim (or_cases (b == 9) (b == 11) h) [
        | inl is ↦ rw (eqb-true b 9 is) (record { symbol = refl; period = refl; behind = λ s. refl; usual = λ s. refl })
        | inr is ↦ rw (eqb-true b 11 is) (record { symbol = refl; period = refl; behind = λ s. refl; usual = λ s. refl })
      ]
    ]
  ]
]

module _ (s : List ℕ) (k : Numbering) (at : ℕ) (turn : Turn s k at) (less : at < length s) where
  abbrev pub b : ℕ
  b = get_or s at 0

  cell : drop at s ≡ b ∷ drop (at + 1) s
  cell = drop_more s at 0 less

  here : AreAccepted (tokens_of s) → AheadOf k at (b ∷ drop (at + 1) s) (wrong_number (tokens_of s))
  here all = subst (λ r. AheadOf k at r (wrong_number (tokens_of s))) cell (turn.ahead all)

  symbol_ahead : starts_symbol b ≡ true → AreAccepted (tokens_of s)
      → AheadOf (with_symbol k at (take (prefix_len continues_symbol (drop at s)) (drop at s))) (at + prefix_len continues_symbol (drop at s))
      (drop (prefix_len continues_symbol (drop at s)) (drop at s)) (wrong_number (tokens_of s))
  symbol_ahead e all = search (rules, take, cell, symbol_goes)

  some_bytes : starts_symbol b ≡ true → 0 < prefix_len continues_symbol (drop at s)
  some_bytes e = rw (cell, continues b e) (omega arith)

  within_rest : (n : ℕ) → n ≤ length (drop at s) → at + n ≤ length s
  within_rest n few = let long = length-drop at s in omega (arith, long, few, less)

  one_more_ply : (depth plies : ℕ) (n : Option ℕ) → plies_after depth plies n ≤ plies + 1
  one_more_ply depth plies n = grind arith

  pub symbol_turn : (n : ℕ) (text : List ℕ) → starts_symbol b ≡ true → n ≡ prefix_len continues_symbol (drop at s) → text ≡ take n (drop at s) → Turn s (with_symbol k at text) (at + n)
  symbol_turn n text e value is = record {
    within = within_rest n (rw value (prefix_len-le-length continues_symbol (drop at s)));
    depth = let depth = turn.depth in omega (arith, depth);
    plies = let plies = turn.plies in omega (arith, plies, value, some_bytes e, one_more_ply k.depth k.plies (number_in text));
    ahead = λ all. rw (is, sym (drop-drop n at s), value) (symbol_ahead e all);
  }

  letter_starts : is_letter b ≡ true → starts_symbol b ≡ true
  letter_starts e = rw e refl

  -- a symbol that begins with a letter is no number
  no_number : (n : ℕ) → 0 < n → is_letter b ≡ true → number_in (take n (b ∷ drop (at + 1) s)) ≡ None
  no_number zero some e = absurd (omega (arith, some))
  no_number (suc n) some e = rw (letter_is_no_digit b e) refl

  with_symbol_is_ply : (n : ℕ) → 0 < n → is_letter b ≡ true → with_symbol k at (take n (drop at s)) ≡ with_ply k
  with_symbol_is_ply n some e = rw (cell, no_number n some e) refl

  pub letter_turn : (n : ℕ) → is_letter b ≡ true → n ≡ prefix_len continues_symbol (drop at s) → Turn s (with_ply k) (at + n)
  letter_turn n e value =
      subst (λ k'. Turn s k' (at + n)) (with_symbol_is_ply n (rw value (some_bytes (letter_starts e))) e)
      (symbol_turn n _ (letter_starts e) value refl)

  depth_with_period : (depth : ℕ) (digits : Option Digits) → (numbered_by k depth digits).depth ≡ depth
  depth_with_period depth digits = grind arith

  plies_with_period : (depth : ℕ) (digits : Option Digits) → (numbered_by k depth digits).plies ≤ k.plies
  plies_with_period depth digits = grind arith

  pub period_turn : b ≡ 46 → wrong_at_period k ≡ None → Turn s (with_period k) (at + 1)
  period_turn is none = record {
    within = omega (arith, less);
    depth = let depth = turn.depth in omega (arith, depth, depth_with_period k.depth k.digits);
    plies = let plies = turn.plies in omega (arith, plies, plies_with_period k.depth k.digits);
    ahead = λ all. period_goes k at (drop (at + 1) s) _ none (subst (λ c. AheadOf k at (c ∷ drop (at + 1) s) (wrong_number (tokens_of s))) is (here all));
  }

  pub wrong_turn : (wrong : WrongNumber) → b ≡ 46 → wrong_at_period k ≡ Some wrong → AreAccepted (tokens_of s) → Some wrong ≡ wrong_number (tokens_of s)
  wrong_turn wrong is e all =
      wrong_is_found k at (drop (at + 1) s) _ wrong e (subst (λ c. AheadOf k at (c ∷ drop (at + 1) s) (wrong_number (tokens_of s))) is (here all))

  deeper : (c depth : ℕ) → depth_after c depth ≤ depth + 1
  deeper c depth = grind arith

  abbrev at_depth : ℕ → Numbering
  at_depth depth = record { depth = depth; plies = k.plies; before = k.before; digits = None }

  depth_with_other : (x : Bool) (depth : ℕ) → depth ≤ k.depth + 1 → (if x then k else at_depth depth).depth ≤ k.depth + 1
  depth_with_other x depth few = grind (arith, common_steps)

  plies_with_other : (x : Bool) (depth : ℕ) → (if x then k else at_depth depth).plies ≡ k.plies
  plies_with_other x depth = grind (arith, common_steps)

  is_no_period : (b ≡ 46 → ⊥) → (b == 46) ≡ false
  is_no_period other = elim (cases_Bool (b == 46)) [ inl e ↦ absurd (other (eqb-true b 46 e)) | inr e ↦ e ]

  pub other_turn : (n : ℕ) → starts_symbol b ≡ false → (b ≡ 46 → ⊥) → n ≡ skipped b (drop (at + 1) s) → n ≤ length (drop (at + 1) s) → Turn s (with_other k b) (at + (1 + n))
  other_turn n e other value few = record {
    within = let long = length-drop (at + 1) s in omega (arith, long, few, less);
    depth = let depth = turn.depth in omega (arith, depth, depth_with_other (is_space b || (b == 37)) (depth_after b k.depth) (deeper b k.depth));
    plies = let plies = turn.plies in omega (arith, plies, plies_with_other (is_space b || (b == 37)) (depth_after b k.depth));
    ahead = λ all.
        let goes = other_goes k at b (drop (at + 1) s) _ e (is_no_period other) (here all) in
        let place : at + 1 + skipped b (drop (at + 1) s) ≡ at + (1 + n) = omega (arith, value) in
        let rest : drop (skipped b (drop (at + 1) s)) (drop (at + 1) s) ≡ drop (at + (1 + n)) s =
        drop-drop (skipped b (drop (at + 1) s)) (at + 1) s ∙ ap (λ m. drop m s) place in
        subst (λ r. AheadOf (with_other k b) (at + (1 + n)) r (wrong_number (tokens_of s))) rest
        (subst (λ m. AheadOf (with_other k b) m (drop (skipped b (drop (at + 1) s)) (drop (at + 1) s)) (wrong_number (tokens_of s))) place goes);
  }

  space_keeps : is_space b ≡ true → with_other k b ≡ k
  space_keeps e = rw e refl

  is_46 : b ≡ 46 → (b == 46) ≡ true
  is_46 e = rw e refl

  pub space_turn : is_space b ≡ true → Turn s k (at + 1)
  space_turn e =
      let is = white b e in
      subst (λ k'. Turn s k' (at + 1)) (space_keeps e)
      (other_turn 0 is.symbol (λ f. true≢false (sym (is_46 f) ∙ is.period)) (sym (is.behind (drop (at + 1) s))) (omega arith))
