-- A byte in a text that is no string.
use Rattle.pgn_lexer.proofs.Words.{◌≡◌, ℕ, ◌+◌, ◌<◌, ◌≤◌, Bool, true, false, List, [], ◌∷◌, ◌++◌, length, refl, sym, ◌∙◌, arith, length-append, take_while, nat_lt, if◌then◌else◌, ltb-true, ltb-false, SymbolTooLong, BadSuffix, CommentClass, comment_class, continues_word, is_in, symbol, glyph, gives, stops, symbol_at, suffix_at, HasLength, EndsAt, is_run, onto, tokens_from, IsSound, PartialToken, HasNotFailed, pending_in, tokens_to_come_in, grown, fails, into, in_text, text_end, EndsBefore, LexMode, Text, TokenForm, bytes_of, found_of, glyph_of, kind_of_text, longest_of, mode_behind, too_long_of, within_behind, within_of, rules, common_steps}
use Rattle.pgn_lexer.proofs.stepping.RunOfBytes.{symbol_goes, symbol_ends, suffix_goes, suffix_ends, run_grows, run_breaks, run_ends, run_closes}
use Rattle.pgn_lexer.proofs.stepping.StepGives.{GivesIn, holds}
use Rattle.pgn_lexer.proofs.stepping.ByteInComment.{closes_alike, word_class, word_ends, word_fits, word_goes, word_long}

pub symbol_fits : (at : ℕ) (run : List ℕ) → length run ≤ 255 → symbol_at at run ≡ gives (symbol run)
symbol_fits at run fits = grind arith

pub symbol_long : (at : ℕ) (run : List ℕ) → 255 < length run → symbol_at at run ≡ stops at SymbolTooLong
symbol_long at run long = grind arith

suffix_fits : (at : ℕ) (run : List ℕ) → 0 < length run → length run ≤ 2 → suffix_at at run ≡ gives (glyph (glyph_of run))
suffix_fits at run some fits = search rules

suffix_long : (at : ℕ) (run : List ℕ) → 2 < length run → suffix_at at run ≡ stops at BadSuffix
suffix_long at run long = search rules

pub word_byte : (b : ℕ) → continues_word b ≡ true → comment_class b ≡ CommentClass.WordByte
word_byte b e = rw e refl

abbrev pub IsNoString : Text → Type 0
IsNoString Text.Str = ⊥
IsNoString _ = Unit {0}

glyph_small : (run : List ℕ) → glyph_of run ≤ 255
glyph_small run = grind arith

-- what a text is, by its bytes
text_fits : (t : Text) → IsNoString t → (at : ℕ) (run : List ℕ) → 0 < length run → length run ≤ longest_of t → found_of t at run ≡ gives (kind_of_text t run)
text_fits t runs at run some fits = search (rules, symbol_fits, suffix_fits, word_fits)

text_long : (t : Text) → IsNoString t → (at : ℕ) (run : List ℕ) → longest_of t < length run → found_of t at run ≡ stops at (too_long_of t)
text_long t runs at run long = search (rules, symbol_long, suffix_long, word_long)

-- what a byte is inside of, that goes on with it or does not
text_goes : (t : Text) → IsNoString t → (place b : ℕ) (s : List ℕ) → is_in (bytes_of t) b ≡ true
    → tokens_from place (within_of t) (b ∷ s) ≡ tokens_from (place + 1) (within_of t) s
text_goes t runs place b s e = search (rules, symbol_goes, suffix_goes, word_goes, word_byte)

text_stops : (t : Text) → IsNoString t → (place b : ℕ) (s : List ℕ) → is_in (bytes_of t) b ≡ false
    → tokens_from place (within_of t) (b ∷ s) ≡ tokens_from place (within_behind t) (b ∷ s)
text_stops t runs place b s e = search (rules, symbol_ends, suffix_ends, word_ends, word_class)

text_ends : (t : Text) → IsNoString t → (place : ℕ) → tokens_from place (within_of t) [] ≡ tokens_from place (within_behind t) []
text_ends t runs place = search (rules, closes_alike)

-- what a lexer holds in it, and behind it
text_comes : (t : Text) → IsNoString t → (place at : ℕ) (text s : List ℕ) → tokens_to_come_in (LexMode.Text t) place at text s
    ≡ onto at (found_of t at (text ++ take_while (is_in (bytes_of t)) s)) (tokens_from place (within_of t) s)
text_comes t runs place at text s = search rules

behind_comes : (t : Text) (place at : ℕ) (text s : List ℕ) → tokens_to_come_in (mode_behind t) place at text s ≡ tokens_from place (within_behind t) s
behind_comes t place at text s = search rules

longest_few : (t : Text) → longest_of t ≤ 255
longest_few t = grind arith

text_sound : (t : Text) → IsNoString t → (place at : ℕ) (text : List ℕ) → 0 < length text → length text ≤ longest_of t → place ≡ at + length text
    → IsSound place (holds (LexMode.Text t) at text)
text_sound t runs place at text some fits began = grind (arith, longest_few)

pub behind_sound : (t : Text) (place at : ℕ) (text : List ℕ) → length text ≤ longest_of t → IsSound place (holds (mode_behind t) at text)
behind_sound t place at text fits = grind (arith, longest_few)

-- the part of it that was read
pub record TextSoFar (t : Text) (place at : ℕ) (text : List ℕ) : Type 0 where
  pub some : 0 < length text
  pub fits : length text ≤ longest_of t
  pub began : place ≡ at + length text

pub so_far : (t : Text) → IsNoString t → (place at : ℕ) (text : List ℕ) → IsSound place (holds (LexMode.Text t) at text) → TextSoFar t place at text
so_far t runs place at text sound = grind arith

pub behind_stands : (t : Text) → HasNotFailed (mode_behind t)
behind_stands t = grind arith

pub text_length : (t : Text) → IsNoString t → (text : List ℕ) → 0 < length text → length text ≤ longest_of t → HasLength (kind_of_text t text)
text_length t runs text some fits = grind (arith, glyph_small)

text_end_at : (t : Text) → IsNoString t → (place at : ℕ) (text : List ℕ) → 0 < length text → place ≡ at + length text → EndsAt (kind_of_text t text) at place
text_end_at t runs place at text some began = grind arith

text_is_run : (t : Text) → IsNoString t → (text : List ℕ) → is_run (kind_of_text t text) ≡ true
text_is_run t runs text = grind arith

few : (t : Text) → pending_in (mode_behind t) ≤ 1
few t = grind arith

pub less : (t : Text) → IsNoString t → pending_in (mode_behind t) < pending_in (LexMode.Text t)
less t runs = grind arith

-- where the text ends in it
pub text_closes : (t : Text) → IsNoString t → (place at : ℕ) (text : List ℕ) → 0 < length text → length text ≤ longest_of t
    → tokens_to_come_in (LexMode.Text t) place at text [] ≡ record { at = at; kind = kind_of_text t text } ∷ tokens_to_come_in (mode_behind t) place at text []
text_closes t runs place at text some fits = search (rules, text_comes, run_closes, text_fits, text_ends, behind_comes)

module _ (t : Text) (runs : IsNoString t) (place at b : ℕ) (text : List ℕ) (some : 0 < length text) (fits : length text ≤ longest_of t)
    (began : place ≡ at + length text) where
  comes : (n : ℕ) (xs s : List ℕ) → tokens_to_come_in (LexMode.Text t) n at xs s
      ≡ onto at (found_of t at (xs ++ take_while (is_in (bytes_of t)) s)) (tokens_from n (within_of t) s)
  comes n xs s = text_comes t runs n at xs s

  byte_gives : is_in (bytes_of t) b ≡ true → (d : Bool) → nat_lt (length text) (longest_of t) ≡ d
      → GivesIn (LexMode.Text t) place at b text (λ h. if d then grown h (LexMode.Text t) b else fails h h.at (too_long_of t))
  byte_gives e true room =
      let short = ltb-true _ _ room in
      record {
        sound = text_sound t runs _ _ _ (omega (arith, length-append text (b ∷ []))) (omega (arith, length-append text (b ∷ []))) (omega (arith, length-append text (b ∷ [])));
        not_failed = tt;
        comes = λ s. comes place text (b ∷ s) ∙ run_grows (found_of t at) (is_in (bytes_of t)) at b text s _ _ e (text_goes t runs place b s e)
            ∙ sym (comes (place + 1) (text ++ b ∷ []) s);
      }
  byte_gives e false full = grind (arith, common_steps, ltb-false, longest_few, comes, run_breaks, text_long, length-append)

  end_gives : is_in (bytes_of t) b ≡ false
      → GivesIn (LexMode.Text t) place at b text (λ h. into h (mode_behind t) (EndsBefore (TokenForm.Text t)))
  end_gives e =
      let is = text_fits t runs at text some fits in
      record {
        sound = behind_sound t place at text fits;
        not_failed = behind_stands t;
        before = omega arith;
        lengths = text_length t runs text some fits;
        ends_at = text_end_at t runs place at text some began;
        runs = text_is_run t runs text;
        few = few t;
        less = less t runs;
        within = within_behind t;
        settled = λ s. behind_comes t place at text s;
        comes = search (rules, comes, run_ends, text_stops, behind_comes);
        at_end = text_closes t runs place at text some fits;
      }

pub ends_text : (t : Text) → IsNoString t → (place b : ℕ) (h : PartialToken) → text_end t place h b ≡ into h (mode_behind t) (EndsBefore (TokenForm.Text t))
ends_text t runs place b h = grind arith

text_gives_by : (t : Text) → IsNoString t → (place at b : ℕ) (text : List ℕ) → TextSoFar t place at text → (c : Bool) → is_in (bytes_of t) b ≡ c
    → GivesIn (LexMode.Text t) place at b text (λ h. if c then (if nat_lt (length h.text) (longest_of t) then grown h (LexMode.Text t) b else fails h h.at (too_long_of t)) else text_end t place h b)
text_gives_by t runs place at b text so c e = search (rules, byte_gives, ends_text, holds, end_gives)

pub text_gives : (t : Text) → IsNoString t → (place at b : ℕ) (text : List ℕ) → IsSound place (holds (LexMode.Text t) at text)
    → GivesIn (LexMode.Text t) place at b text (λ h. in_text t place h b)
text_gives t runs place at b text sound = text_gives_by t runs place at b text (so_far t runs place at text sound) _ refl
