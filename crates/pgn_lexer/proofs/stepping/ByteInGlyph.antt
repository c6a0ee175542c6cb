-- A byte in a glyph.
use Rattle.pgn_lexer.proofs.Words.{◌≡◌, ℕ, ◌+◌, ◌-◌, ◌*◌, ◌<◌, ◌≤◌, Bool, true, false, List, [], ◌∷◌, length, refl, ap, ◌∙◌, arith, take_while, nat_le, if◌then◌else◌, leb-true, leb-false, LoneDollar, GlyphRange, Used, EndsBefore, is_digit, glyph, gives, stops, number_from, numbered_at, glyph_at, in_glyph, outside, onto, tokens_from, into, fails, LexMode, TokenForm, rules}
use Rattle.pgn_lexer.proofs.stepping.RunOfBytes.{take_while-true, glyph_goes, glyph_ends, run_grows, run_breaks, run_ends}
use Rattle.pgn_lexer.proofs.stepping.StepGives.{GivesIn}

number_grows : (n : ℕ) (ds : List ℕ) → n ≤ number_from n ds
number_grows n [] = omega arith
number_grows n (d ∷ ds) = omega (arith, number_grows (10 * n + (d - 48)) ds)

pub number_fits : (at n : ℕ) → n ≤ 255 → numbered_at at n ≡ gives (glyph n)
number_fits at n fits = grind arith

pub number_long : (at n : ℕ) → 255 < n → numbered_at at n ≡ stops at GlyphRange
number_long at n long = grind arith

digit_small : (b : ℕ) → is_digit b ≡ true → b ≤ 57
digit_small b e = grind arith

pub glyph_gives : (place at b n : ℕ) (text : List ℕ) → length text ≤ 255 → n ≤ 255 → at < place → (c : Bool) → is_digit b ≡ c
    → (d : Bool) → nat_le (10 * n + (b - 48)) 255 ≡ d
    → GivesIn (LexMode.Glyph n) place at b text (λ h. if c then (if d then into h (LexMode.Glyph (10 * n + (b - 48))) Used else fails h h.at GlyphRange)
    else into h LexMode.Outside (EndsBefore (TokenForm.Glyph n)))
glyph_gives place at b n text fits small began true e true low =
    record {
      sound = record { room = (fits, leb-true _ _ low); placed = omega arith };
      not_failed = tt;
      comes = λ s. run_grows (λ run. numbered_at at (number_from n run)) is_digit at b [] s _ _ e (glyph_goes place b s e);
    }
glyph_gives place at b n text fits small began true e false high =
    let over : 255 < 10 * n + (b - 48) = leb-false _ _ high in
    record {
      sound = omega arith;
      fails = refl;
      comes = λ s. run_breaks (λ run. numbered_at at (number_from n run)) is_digit at b [] s _ at GlyphRange e
          (number_long at _ (omega (arith, number_grows (10 * n + (b - 48)) (take_while is_digit s))));
    }
glyph_gives place at b n text fits small began false e d _ =
    record {
      sound = omega arith;
      not_failed = tt;
      before = began;
      lengths = small;
      ends_at = began;
      runs = refl;
      few = omega arith;
      less = omega arith;
      within = outside;
      settled = λ s. refl;
      comes = search (rules, run_ends, number_fits, glyph_ends);
      at_end = ap (λ f. onto at f (tokens_from place in_glyph [])) (number_fits at n small);
    }

pub dollar_gives : (place at b : ℕ) (text : List ℕ) → length text ≤ 255 → at < place → (c : Bool) → is_digit b ≡ c
    → GivesIn LexMode.Dollar place at b text (λ h. if c then into h (LexMode.Glyph (b - 48)) Used else fails h h.at LoneDollar)
dollar_gives place at b text fits began true e =
    let first : 10 * 0 + (b - 48) ≡ b - 48 = omega arith in
    record {
      sound = omega (arith, digit_small b e);
      not_failed = tt;
      comes = λ s. ap (λ run. onto at (glyph_at at run) (tokens_from place in_glyph (b ∷ s))) (take_while-true is_digit b s e)
          ∙ ap (λ n. onto at (numbered_at at (number_from n (take_while is_digit s))) (tokens_from place in_glyph (b ∷ s))) first
          ∙ ap (onto at (numbered_at at _)) (glyph_goes place b s e);
    }
dollar_gives place at b text fits began false e = grind arith
