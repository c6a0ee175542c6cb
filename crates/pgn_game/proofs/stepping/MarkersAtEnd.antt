-- A marker among the tokens that a lexer has left at the end of the input: it is a symbol that ends
-- with the text.
use Rattle.pgn_lexer.specs.declared.partial_token.LexMode.TheVariants as modes
use Rattle.pgn_lexer.specs.declared.partial_token.Text.TheVariants as texts
use Rattle.pgn_lexer.specs.Tokens as tokens
use Rattle.pgn_game.proofs.MarkerTexts.{score_marker, marker_short}
use Rattle.pgn_game.proofs.Words.{Token, Kind, StandsAfter, ◌≡◌, ℕ, ◌+◌, ◌≤◌, Bool, true, false, IsTrue, is_some, List, [], ◌∷◌, ◌++◌, length, nat_le, None, refl, sym, ap, ◌∙◌, drop, append_assoc, length-append, arith, le-leb, false≢true, Standing, coming, is_score, marker_of, if◌then◌else◌, drop_at, drop-append-le, drop-drop, length-drop, SymbolTooLong, gives, stops, onto, tokens_to_come_in, BeginsWithToken, SymbolsStandInText, rules}
use Rattle.pgn_game.specs.public.ItemsCalls.{MarkersEndAt}
use Rattle.pgn_game.proofs.stepping.LastTokens.{AreQuiet, IsLeft, IsQuiet, close, end, glyph, left_in, refused, symbol, token_at, word}

-- ---- a symbol that goes on to the end

score_short : (s : List ℕ) → is_score s ≡ true → length s ≤ 7
score_short s is = let m = score_marker s is in omega (arith, marker_short m.0, ap (length {A = ℕ}) m.1)

-- where a text goes on with a digit, the symbol does
symbol_given : (at : ℕ) (text : List ℕ) (behind : List Token) (fits : Bool) → fits ≡ true → (rest : List Token)
    × (onto at (if fits then gives (tokens.symbol text) else stops at SymbolTooLong) behind ≡ token_at at (tokens.symbol text) ∷ rest)
symbol_given at text behind true is = (behind, refl)
symbol_given at text behind false is = absurd (cc)

fits_digit : (text : List ℕ) (digit : ℕ) → length text ≤ 254 → nat_le (length (text ++ digit ∷ [])) 255 ≡ true
fits_digit text digit short = le-leb _ _ (omega (arith, short, length-append text (digit ∷ [])))

abbrev GoesOn : ℕ → ℕ → List ℕ → ℕ → Type 0
GoesOn place at text digit =
    (rest : List Token)
    × (tokens_to_come_in (modes.Text texts.Symbol) place at text (digit ∷ []) ≡ token_at at (tokens.symbol (text ++ digit ∷ [])) ∷ rest)

-- so it ends with the text: no byte behind it could be both digits
abbrev HasDigit : List ℕ → ℕ → List ℕ → ℕ → Type 0
HasDigit u at text digit = BeginsWithToken (tokens.symbol (text ++ digit ∷ [])) (drop at (u ++ digit ∷ []))

ends_with_text : (u : List ℕ) (at : ℕ) (text : List ℕ) → HasDigit u at text 49
    → HasDigit u at text 50 → length u ≡ at + length (text ++ [])
ends_with_text u at text one two = by_rest (drop n u) refl
  where
    n : ℕ
    n = at + length text

    behind : (digit : ℕ) → (has : HasDigit u at text digit) → drop n (u ++ digit ∷ []) ≡ digit ∷ has.0
    behind digit has =
        cc (
          drop-drop (length text) at (u ++ digit ∷ []),
          has.1,
          append_assoc text (digit ∷ []) has.0,
          drop_at text (digit ∷ has.0) (length text) refl,
        )

    within : n ≤ length u
    within = omega (arith, ap (length {A = ℕ}) (behind 49 one), length-drop n (u ++ 49 ∷ []), length-append u (49 ∷ []))

    next_byte : (b digit : ℕ) (bs : List ℕ) → drop n u ≡ b ∷ bs → HasDigit u at text digit → b ≡ digit
    next_byte b digit bs is has =
        let same : b ∷ (bs ++ digit ∷ []) ≡ digit ∷ has.0 =
        ap (λ l. l ++ digit ∷ []) (sym is) ∙ sym (drop-append-le n u (digit ∷ []) within) ∙ behind digit has in cc

    by_rest : (rest : List ℕ) → drop n u ≡ rest → length u ≡ at + length (text ++ [])
    by_rest [] is = omega (arith, within, ap (length {A = ℕ}) is, length-drop n u, length-append text [])
    by_rest (b ∷ bs) is = absurd (omega (arith, next_byte b 49 bs is one, next_byte b 50 bs is two))

-- ---- the tokens that are left

quiet_none : (k : Kind) → IsQuiet k → marker_of k ≡ None
quiet_none _ end = refl
quiet_none _ (word text) = refl
quiet_none _ close = refl
quiet_none _ (refused r) = refl

none_ends : {A : Type 0} (k : Kind) → marker_of k ≡ None → IsTrue (is_some (marker_of k)) → A
none_ends k is_none is = absurd (false≢true (sym (ap is_some is_none) ∙ is))

quiet_ends : (place : ℕ) (ts : List Token) → AreQuiet ts → MarkersEndAt place ts
quiet_ends place [] quiet = tt
quiet_ends place (t ∷ ts) (here, rest) = (none_ends t.kind (quiet_none t.kind here), quiet_ends place ts rest)

is_score_if : (text : List ℕ) (b : Bool) → is_score text ≡ b → IsTrue (is_some (marker_of (tokens.symbol text))) → is_score text ≡ true
is_score_if text b score is = search (rules, none_ends)

module _ (stand : SymbolsStandInText) (l : Standing) (u : List ℕ) (given : List Token) (lexer : StandsAfter l u None given) where
  pub score_ends : l.held.mode ≡ (modes.Text texts.Symbol) → is_score (l.held.text ++ []) ≡ true → length u ≡ l.held.at + length (l.held.text ++ [])
  score_ends mode score =
      let text = l.held.text in
      let short = score_short (text ++ []) score in
      let short_enough : length text ≤ 254 = omega (arith, short, length-append text []) in
      let one : GoesOn l.count l.held.at text 49 = symbol_given l.held.at (text ++ 49 ∷ []) _ _ (fits_digit text 49 short_enough) in
      let two : GoesOn l.count l.held.at text 50 = symbol_given l.held.at (text ++ 50 ∷ []) _ _ (fits_digit text 50 short_enough) in
      ends_with_text u l.held.at text
      (stand (u ++ 49 ∷ []) given one.0 (token_at l.held.at (tokens.symbol (text ++ 49 ∷ [])))
      (lexer.tokens (49 ∷ []) tt
      ∙ ap (λ m. given ++ tokens_to_come_in m l.count l.held.at text (49 ∷ [])) mode ∙ ap (λ ts. given ++ ts) one.1))
      (stand (u ++ 50 ∷ []) given two.0 (token_at l.held.at (tokens.symbol (text ++ 50 ∷ [])))
      (lexer.tokens (50 ∷ []) tt ∙ ap (λ m. given ++ tokens_to_come_in m l.count l.held.at text (50 ∷ [])) mode
      ∙ ap (λ ts. given ++ ts) two.1))

  by_left : (ts : List Token) → IsLeft l.held.mode l.count l.held.at l.held.text ts → MarkersEndAt (length u) ts
  by_left ts h1 = search (rules, quiet_ends, glyph, none_ends, symbol, score_ends, is_score_if)

  pub markers_end : MarkersEndAt (length u) (coming l [])
  markers_end = by_left (coming l []) (left_in l.held.mode)
