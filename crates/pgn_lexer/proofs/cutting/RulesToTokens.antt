-- How a text is cut, and its tokens.
use Rattle.pgn_lexer.proofs.Words.{◌≡◌, ℕ, ◌+◌, ◌<◌, ◌≤◌, Bool, true, false, List, [], ◌∷◌, ◌++◌, length, refl, sym, ap, ◌∙◌, append-nil, append_assoc, arith, length-append, ◌||◌, not, take_while, false≢true, LexReason, ControlByte, BadSuffix, Class, CommentClass, is_line_end, is_space, is_control, is_digit, starts_symbol, continues_symbol, is_suffix, continues_word, Kind, Token, class, comment_class, symbol_at, word_at, glyph_at, suffix_at, Within, begins_class, begins_brace, begins_line, after_class, after_brace, after_line, onto, tokens_from, StopsAt, IsRun, IsSingle, IsSuffix, SpellsToken, Refuses, Where, Cuts, both_true, string_at, reading, with_front, Data, or_cases, and_parts, not-true, common_steps, outside, column, in_suffix, in_escape_line, line, quotes, refused, comment_close, str, glyph, number_of, rules}
use Rattle.pgn_lexer.specs.Lexes as lexes
use Rattle.pgn_lexer.proofs.stepping.RunOfBytes.{take_while-true, take_while-false, suffix_goes}
use Rattle.pgn_lexer.proofs.bytes.ClassToTest.{stray_class, line_end_class, blank_class, line_end_comment, suffix_class, reserved_class, control_class, control_comment}
use Rattle.pgn_lexer.proofs.stepping.ByteInText.{symbol_fits, symbol_long}
use Rattle.pgn_lexer.proofs.cutting.StringData.{reads_data, reads_control, quotes_skip}
use Rattle.pgn_lexer.proofs.stepping.ByteInComment.{word_fits, word_class, word_ends}
use Rattle.pgn_lexer.proofs.stepping.ByteInGlyph.{number_fits, number_long}

abbrev pub within_of : Where → Within
within_of (lexes.outside true) = column
within_of (lexes.outside false) = outside
within_of (lexes.comment true) = Within.brace
within_of (lexes.comment false) = line

-- the tokens from a place outside comments, in the first column or not, and those in a comment
abbrev pub outer : Bool → ℕ → List ℕ → List Token
outer first at s = tokens_from at (within_of (lexes.outside first)) s

abbrev inner : Bool → ℕ → List ℕ → List Token
inner braces at s = tokens_from at (within_of (lexes.comment braces)) s

abbrev placed : ℕ → Kind → Token
placed at kind = record { at = at; kind = kind }

take_run : (p : ℕ → Bool) (run s : List ℕ) → IsRun p run s → take_while p (run ++ s) ≡ run
take_run p [] [] long = refl
take_run p [] (b ∷ s) long = take_while-false p b s long.1
take_run p (b ∷ run) s long = grind (arith, take_while-true, take_run p run s)

-- the places within a run give nothing
module _ (within out : Within) (p : ℕ → Bool)
    (goes : (at b : ℕ) (s : List ℕ) → p b ≡ true → tokens_from at within (b ∷ s) ≡ tokens_from (at + 1) within s)
    (ends : (at : ℕ) (s : List ℕ) → StopsAt p s → tokens_from at within s ≡ tokens_from at out s) where
  skips : (at : ℕ) (run s : List ℕ) → IsRun p run s → tokens_from at within (run ++ s) ≡ tokens_from (at + length run) out s
  skips at [] s long = let same : at ≡ at + 0 = omega arith in ends at s long.1 ∙ ap (λ n. tokens_from n out s) same
  skips at (b ∷ run) s long =
      let same : at + 1 + length run ≡ at + length (b ∷ run) = omega arith in
      let all = and_parts (p b) _ long.0 in goes at b _ all.0 ∙ rw (skips (at + 1) run s (all.1, long.1), same)

suffix_stops : (at : ℕ) (s : List ℕ) → StopsAt is_suffix s → tokens_from at in_suffix s ≡ tokens_from at outside s
suffix_stops at s h1 = grind arith

-- outside strings and comments, where no escape line begins
from_class : (first : Bool) (at b : ℕ) (s : List ℕ) (c : Class) → class b ≡ c → (c ≡ Class.Percent → ⊥)
    → outer first at (b ∷ s) ≡ onto at (begins_class at c b s) (tokens_from (at + 1) (after_class c) s)
from_class first at b s c e other = search rules

module _ (first : Bool) (at : ℕ) where
  space_skips : (b : ℕ) (s : List ℕ) → is_space b ≡ true → outer first at (b ∷ s) ≡ outer (is_line_end b) (at + 1) s
  space_skips b s e = grind (arith, line_end_class, blank_class)

  symbol_cut : (b : ℕ) (run s : List ℕ) → starts_symbol b ≡ true → IsRun continues_symbol run s
      → outer first at (b ∷ (run ++ s)) ≡ onto at (symbol_at at (b ∷ run)) (tokens_from (at + 1 + length run) outside s)
  symbol_cut b run s e long = grind (arith, take_run, skips)

  glyph_cut : (run s : List ℕ) → IsRun is_digit run s → outer first at (36 ∷ (run ++ s)) ≡ onto at (glyph_at at run)
      (tokens_from (at + 1 + length run) outside s)
  glyph_cut run s long = grind (arith, take_run, skips)

  suffix_cut : (b : ℕ) (run s : List ℕ) → is_suffix b ≡ true → IsRun is_suffix run s
      → outer first at (b ∷ (run ++ s)) ≡ onto at (suffix_at at (b ∷ run)) (tokens_from (at + 1 + length run) outside s)
  suffix_cut b run s e long = search (rules, from_class, suffix_class, take_run, skips, in_suffix, outside, suffix_goes, suffix_stops)

escape_line_goes : (at b : ℕ) (s : List ℕ) → not (is_line_end b) ≡ true
    → tokens_from at in_escape_line (b ∷ s) ≡ tokens_from (at + 1) in_escape_line s
escape_line_goes at b s e = grind arith

escape_line_stops : (at : ℕ) (s : List ℕ) → StopsAt (λ b. not (is_line_end b)) s
    → tokens_from at in_escape_line s ≡ tokens_from at outside s
escape_line_stops at s h1 = grind arith

escape_line_cut : (at : ℕ) (run s : List ℕ) → IsRun (λ b. not (is_line_end b)) run s
    → tokens_from at column (37 ∷ (run ++ s)) ≡ tokens_from (at + 1 + length run) outside s
escape_line_cut at run s long = skips _ _ _ escape_line_goes escape_line_stops _ run s long

abbrev word_within : Bool → Within
word_within true = Within.brace_word
word_within false = Within.line_word

comment_tokens : Bool → ℕ → Bool → ℕ → List ℕ → CommentClass → List Token
comment_tokens true at goes b s c = onto at (begins_brace at goes c b s) (tokens_from (at + 1) (after_brace c) s)
comment_tokens false at goes b s c = onto at (begins_line at goes c b s) (tokens_from (at + 1) (after_line c) s)

from_comment : (braces : Bool) (at b : ℕ) (s : List ℕ) (c : CommentClass) → comment_class b ≡ c
    → inner braces at (b ∷ s) ≡ comment_tokens braces at false b s c
unfolding comment_tokens
from_comment braces at b s c h1 = grind arith

word_goes : (braces : Bool) (at b : ℕ) (s : List ℕ) → continues_word b ≡ true
    → tokens_from at (word_within braces) (b ∷ s) ≡ tokens_from (at + 1) (word_within braces) s
unfolding comment_tokens
word_goes braces at b s h1 = grind arith

word_stops : (braces : Bool) (at : ℕ) (s : List ℕ) → StopsAt continues_word s → tokens_from at (word_within braces) s ≡ inner braces at s
word_stops braces at s h1 = search (rules, word_class, word_ends)

letter_first : (braces : Bool) (at b : ℕ) (s : List ℕ) → continues_word b ≡ true
    → inner braces at (b ∷ s) ≡ onto at (word_at at (b ∷ take_while continues_word s)) (tokens_from (at + 1) (word_within braces) s)
unfolding comment_tokens
letter_first braces at b s h1 = grind arith

pub word_cut : (braces : Bool) (at b : ℕ) (run s : List ℕ) → continues_word b ≡ true → IsRun continues_word run s
    → inner braces at (b ∷ (run ++ s)) ≡ onto at (word_at at (b ∷ run)) (inner braces (at + 1 + length run) s)
word_cut braces at b run s e long = search (rules, letter_first, take_run, skips, word_goes, word_stops)

blank_in_comment : (braces : Bool) (at b : ℕ) (s : List ℕ) → is_space b ≡ true → (braces || not (is_line_end b)) ≡ true
    → inner braces at (b ∷ s) ≡ inner braces (at + 1) s
unfolding comment_tokens
blank_in_comment braces at b s h1 h2 = grind (arith, or_cases, common_steps, false≢true, not-true)

pub control_in_comment : (braces : Bool) (at b : ℕ) (s : List ℕ) → is_control b ≡ true
    → inner braces at (b ∷ s) ≡ placed at (refused ControlByte) ∷ []
unfolding comment_tokens
control_in_comment braces at b s h1 = grind (arith, control_comment)

line_closes : (at b : ℕ) (s : List ℕ) → is_line_end b ≡ true
    → tokens_from at line (b ∷ s) ≡ placed at comment_close ∷ tokens_from (at + 1) column s
unfolding comment_tokens
line_closes at b s e = from_comment false at b s _ (line_end_comment b e)

-- a token that is spelled is given
module _ (first : Bool) (at : ℕ) where
  moved : (k : Kind) (m n : ℕ) (s : List ℕ) → m ≡ n → placed at k ∷ tokens_from m outside s ≡ placed at k ∷ tokens_from n outside s
  moved k m n s e = ap (λ n. placed at k ∷ tokens_from n outside s) e

  single_is : (b : ℕ) (s : List ℕ) (k : Kind) → IsSingle b k → outer first at (b ∷ s) ≡ placed at k ∷ tokens_from (at + 1) outside s
  single_is _ s _ lexes.left_bracket = from_class first at _ s _ refl (λ e. cc)
  single_is _ s _ _ = from_class first at _ s _ refl (λ e. cc)

  suffix_is : (run s : List ℕ) (n : ℕ) → IsSuffix run n → StopsAt is_suffix s
      → outer first at (run ++ s) ≡ placed at (glyph n) ∷ tokens_from (at + length run) outside s
  suffix_is _ s _ lexes.good stop = grind arith
  suffix_is _ s _ lexes.poor stop = grind arith
  suffix_is _ s _ _ stop = suffix_cut first at _ (_ ∷ []) s refl (refl, stop) ∙ moved _ _ _ s (omega arith)

  -- what a string comes to, by its data and what comes after them
  string_reads : (raw text rest : List ℕ) → Data raw text rest → length text ≤ 255 → outer first at (34 ∷ (raw ++ rest))
      ≡ onto at (string_at (with_front text (reading at (at + 1 + length raw) (length text) false rest)))
      (tokens_from (at + 1) quotes (raw ++ rest))
  string_reads raw text rest data' fits =
      let none : 0 + length text ≡ length text = omega arith in search (rules, from_class, reads_data)

  spells_is : (run s : List ℕ) (k : Kind) → SpellsToken run s k
      → outer first at (run ++ s) ≡ placed at k ∷ tokens_from (at + length run) outside s
  spells_is _ _ _ (lexes.symbol b run s e long fits) = grind (arith, common_steps, symbol_cut, symbol_fits, moved)
  spells_is _ _ _ (lexes.string raw text s data' fits) =
      let same : at + 1 + length raw + 1 ≡ at + length (34 ∷ (raw ++ 34 ∷ [])) = omega (arith, length-append raw (34 ∷ [])) in
      ap (λ l. outer first at (34 ∷ l)) (append_assoc raw (34 ∷ []) s) ∙ string_reads raw text _ data' fits
      ∙ ap (λ t. placed at (str t) ∷ tokens_from (at + 1) quotes (raw ++ 34 ∷ s)) (append-nil text)
      ∙ ap (λ ts. placed at (str text) ∷ ts) (quotes_skip _ raw text _ s data' refl ∙ ap (λ n. tokens_from n outside s) same)
  spells_is _ _ _ (lexes.glyph d ds s e long fits) =
      glyph_cut first at (d ∷ ds) s (both_true e long.0, long.1) ∙ rw (number_fits at (number_of (d ∷ ds)) fits) (moved _ _ _ s (omega arith))
  spells_is _ _ _ (lexes.suffix run s n is stop) = suffix_is run s n is stop
  spells_is _ _ _ (lexes.single b s k is) = grind (arith, single_is b s k is)

  abbrev refused_at : LexReason → ℕ → List Token
  refused_at r n = placed n (refused r) ∷ []

  here : (n : ℕ) (r : LexReason) → at ≡ n → refused_at r at ≡ refused_at r n
  here n r e = ap (refused_at r) e

  refuses_is : (s : List ℕ) (n : ℕ) (r : LexReason) → Refuses s n r → outer first at s ≡ placed (at + n) (refused r) ∷ []
  refuses_is _ _ _ (lexes.stray b s e) = grind (arith, from_class, stray_class, here)
  refuses_is _ _ _ (lexes.control_byte b s e) = grind (arith, from_class, control_class, here)
  refuses_is _ _ _ (lexes.reserved b s e) = grind (arith, from_class, reserved_class, here)
  refuses_is _ _ _ (lexes.long_symbol b run s e long over) = grind (arith, symbol_cut, symbol_long, here)
  refuses_is _ _ _ (lexes.long_string b raw text s data' full more) = grind (arith, string_reads raw text (b ∷ s) data' (omega arith), here)
  refuses_is _ _ _ (lexes.control_in_string b raw text s data' fits bad other) =
      let further : at + 1 + length raw ≡ at + (1 + length raw) = omega arith in
      string_reads raw text (b ∷ s) data' fits ∙ rw (reads_control at (at + 1 + length raw) _ b s bad other, further)
  refuses_is _ _ _ (lexes.open_string raw text s data' fits stop) = grind (arith, string_reads raw text s data' fits, here)
  refuses_is _ _ _ (lexes.lone_dollar s stop) = grind (arith, glyph_cut, here)
  refuses_is _ _ _ (lexes.large_glyph d ds s e long over) =
      grind (arith, glyph_cut first at (d ∷ ds) s (both_true e long.0, long.1), number_long, here)
  refuses_is _ _ _ (lexes.bad_suffix run s long many) = bad_run run s long many
    where
      bad_run : (run s : List ℕ) → IsRun is_suffix run s → 2 < length run
          → outer first at (run ++ s) ≡ placed (at + 0) (refused BadSuffix) ∷ []
      bad_run (a ∷ b ∷ c ∷ run) s long many =
          let all = and_parts _ _ long.0 in
          suffix_cut first at a (b ∷ c ∷ run) s all.0 (all.1, long.1) ∙ here _ _ (omega arith)
      bad_run _ s long many = absurd (omega arith)

-- the tokens of a cut are those of the text
pub cuts_is : (w : Where) (at : ℕ) (s : List ℕ) (ts : List Token) → Cuts w at s ts → ts ≡ tokens_from at (within_of w) s
cuts_is _ _ _ _ (lexes.space first at b s ts e more) = cuts_is _ _ _ _ more ∙ sym (space_skips first at b s e)
cuts_is _ _ _ _ (lexes.escape_line at run s ts long more) = cuts_is _ _ _ _ more ∙ sym (escape_line_cut at run s long)
cuts_is _ _ _ _ (lexes.token first at run s k ts spelled more) = rw (cuts_is _ _ _ _ more) (sym (spells_is first at run s k spelled))
cuts_is _ _ _ _ (lexes.refuses first at n s r bad) = sym (refuses_is first at s n r bad)
cuts_is _ _ _ _ (lexes.opens_brace first at s ts more) = rw (cuts_is _ _ _ _ more) (sym (from_class first at 123 s _ refl (λ e. cc)))
cuts_is _ _ _ _ (lexes.opens_line first at s ts more) = rw (cuts_is _ _ _ _ more) (sym (from_class first at 59 s _ refl (λ e. cc)))
cuts_is _ _ _ _ (lexes.between_words braces at b s ts e other more) = cuts_is _ _ _ _ more ∙ sym (blank_in_comment braces at b s e other)
cuts_is _ _ _ _ (lexes.word braces at b run s ts e long fits more) = grind (arith, cuts_is _ _ _ _ more, word_cut, word_fits)
cuts_is _ _ _ _ (lexes.long_word braces at b run s e long over) = grind (arith, word_cut)
cuts_is _ _ _ _ (lexes.control_in_comment braces at b s e) = sym (control_in_comment braces at b s e)
cuts_is _ _ _ _ (lexes.closes_brace at s ts more) = rw (cuts_is _ _ _ _ more)
cuts_is _ _ _ _ (lexes.closes_line at b s ts e more) = rw (cuts_is _ _ _ _ more) (sym (line_closes at b s e))
cuts_is _ _ _ _ cut = grind arith
