-- A byte that goes on with a run, and one that ends it.
use Rattle.pgn_lexer.proofs.Words.{◌≡◌, ℕ, ◌+◌, Bool, true, false, List, [], ◌∷◌, ◌++◌, ap, append-nil, append_assoc, take_while, LexReason, is_digit, continues_symbol, is_suffix, class, Found, gives, stops, Kind, Token, refused, Within, in_symbol, in_glyph, in_suffix, outside, begins_after, after_run, onto, tokens_from, arith}

pub take_while-true : (p : ℕ → Bool) (b : ℕ) (s : List ℕ) → p b ≡ true → take_while p (b ∷ s) ≡ b ∷ take_while p s
take_while-true p b s e = grind arith

pub take_while-false : (p : ℕ → Bool) (b : ℕ) (s : List ℕ) → p b ≡ false → take_while p (b ∷ s) ≡ []
take_while-false p b s e = grind arith

-- the tokens from a byte at which a run goes on, or not
abbrev run_tokens : Within → ℕ → ℕ → List ℕ → Bool → List Token
run_tokens within place b s c = onto place (begins_after c place (class b) b s) (tokens_from (place + 1) (after_run c within (class b)) s)

module _ (place b : ℕ) (s : List ℕ) where
  pub symbol_goes : continues_symbol b ≡ true → tokens_from place in_symbol (b ∷ s) ≡ tokens_from (place + 1) in_symbol s
  symbol_goes e = ap (run_tokens _ _ b s) e

  pub symbol_ends : continues_symbol b ≡ false → tokens_from place in_symbol (b ∷ s) ≡ tokens_from place outside (b ∷ s)
  symbol_ends e = ap (run_tokens _ _ b s) e

  pub glyph_goes : is_digit b ≡ true → tokens_from place in_glyph (b ∷ s) ≡ tokens_from (place + 1) in_glyph s
  glyph_goes e = ap (run_tokens _ _ b s) e

  pub glyph_ends : is_digit b ≡ false → tokens_from place in_glyph (b ∷ s) ≡ tokens_from place outside (b ∷ s)
  glyph_ends e = ap (run_tokens _ _ b s) e

  pub suffix_goes : is_suffix b ≡ true → tokens_from place in_suffix (b ∷ s) ≡ tokens_from (place + 1) in_suffix s
  suffix_goes e = ap (run_tokens _ _ b s) e

  pub suffix_ends : is_suffix b ≡ false → tokens_from place in_suffix (b ∷ s) ≡ tokens_from place outside (b ∷ s)
  suffix_ends e = ap (run_tokens _ _ b s) e

-- A token whose text is a run: `found` says what the whole run comes to, text is the part read.
module _ (found : List ℕ → Found) (p : ℕ → Bool) (at b : ℕ) (text : List ℕ) where
  pub run_grows : (s : List ℕ) (old new : List Token) → p b ≡ true → old ≡ new
      → onto at (found (text ++ take_while p (b ∷ s))) old ≡ onto at (found ((text ++ b ∷ []) ++ take_while p s)) new
  run_grows s old new e same = grind (arith, append_assoc)

  pub run_breaks : (s : List ℕ) (old : List Token) (place : ℕ) (r : LexReason) → p b ≡ true
      → found (text ++ b ∷ take_while p s) ≡ stops place r
      → onto at (found (text ++ take_while p (b ∷ s))) old ≡ record { at = place; kind = refused r } ∷ []
  run_breaks s old place r e broken = grind arith

  pub run_ends : (s : List ℕ) (old new : List Token) (k : Kind) → p b ≡ false → found text ≡ gives k → old ≡ new
      → onto at (found (text ++ take_while p (b ∷ s))) old ≡ record { at = at; kind = k } ∷ new
  run_ends s old new k e given same = grind (arith, append-nil)

pub run_closes : (found : List ℕ → Found) (at : ℕ) (text : List ℕ) (old : List Token) (k : Kind) → found text ≡ gives k
    → onto at (found (text ++ [])) old ≡ record { at = at; kind = k } ∷ old
run_closes found at text old k given = grind (arith, append-nil)
