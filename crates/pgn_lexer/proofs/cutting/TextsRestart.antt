-- The tokens behind a symbol or an asterisk, and those behind white space.
use Rattle.pgn_lexer.proofs.Words.{◌≡◌, ℕ, zero, suc, ◌+◌, Bool, true, false, cond, List, [], ◌∷◌, ◌++◌, length, refl, sym, ap, ◌∙◌, arith, append_assoc, subst, length-append, take_while, drop, replicate, None, ◌==◌, if◌then◌else◌, length-replicate, take_while-cons, Class, continues_symbol, Token, EndsAt, Start, LineStart, Outside, PartialToken, StandsAfter, CanBeMarker, TextsRestart, class, Found, gives, stops, symbol_at, Within, after_class, after_run, begins_class, begins_first, begins_after, begins, next, onto, at_end, tokens_from, tokens_of, has_mark, outside, column, in_symbol, after_first, cases_Bool, inl, inr, drop-drop, drop_at, rules}
use Rattle.pgn_lexer.proofs.stepping.ByteOutside.{other_first}
use Rattle.pgn_lexer.specs.WhiteSpace.{white_space}

-- the tokens from a place behind a run of symbol bytes on
abbrev Behind : ℕ → List ℕ → List ℕ → List Token
Behind at s run = tokens_from (at + length run) outside (drop (length run) s)

behind_byte : (at : ℕ) (b : ℕ) (bs : List ℕ) (c : Bool)
    → take_while continues_symbol (b ∷ bs) ≡ cond c (b ∷ take_while continues_symbol bs) []
    → tokens_from (at + 1) in_symbol bs ≡ Behind (at + 1) bs (take_while continues_symbol bs)
    → onto at (begins_after c at (class b) b bs) (tokens_from (at + 1) (after_run c in_symbol (class b)) bs)
    ≡ Behind at (b ∷ bs) (take_while continues_symbol (b ∷ bs))
behind_byte at b bs c run more = search rules

behind_run : (at : ℕ) (s : List ℕ) → tokens_from at in_symbol s ≡ Behind at s (take_while continues_symbol s)
behind_run at [] = ap (λ n. at_end n outside) (omega arith)
behind_run at (b ∷ bs) = behind_byte at b bs _ (take_while-cons continues_symbol b bs) (behind_run (at + 1) bs)

-- Where the token ends, the rest of the tokens are read as outside all tokens. It begins at or
-- behind this place of the text s.
abbrev GoesOn : ℕ → List ℕ → Token → List Token → Type 0
GoesOn at s t rest =
    (behind : ℕ) → EndsAt t.kind t.at behind → CanBeMarker t.kind
    → (n : ℕ) × (behind ≡ at + suc n) × (rest ≡ tokens_from behind outside (drop (suc n) s))

abbrev AllGoOn : ℕ → List ℕ → List Token → Type 0
AllGoOn at s [] = Unit {0}
AllGoOn at s (t ∷ ts) = GoesOn at s t ts × AllGoOn at s ts

-- the same of what begins at the byte b
abbrev FoundGoesOn : ℕ → ℕ → List ℕ → Found → List Token → Type 0
FoundGoesOn at b bs Found.nothing rest = Unit {0}
FoundGoesOn at b bs (gives k) rest = GoesOn at (b ∷ bs) (record { at = at; kind = k }) rest
FoundGoesOn at b bs (stops place r) rest = Unit {0}

module _ (at : ℕ) where
  symbol_goes_on : (b : ℕ) (bs : List ℕ) → FoundGoesOn at b bs (symbol_at at (b ∷ take_while continues_symbol bs)) (tokens_from (at + 1) in_symbol bs)
  symbol_goes_on b bs = grind (arith, behind_run)

  class_goes_on : (c : Class) (b : ℕ) (bs : List ℕ) → FoundGoesOn at b bs (begins_class at c b bs) (tokens_from (at + 1) (after_class c) bs)
  class_goes_on c b bs = grind (arith, symbol_goes_on)

  first_goes_on : (c : Class) (b : ℕ) (bs : List ℕ) → FoundGoesOn at b bs (begins_first at c b bs) (tokens_from (at + 1) (after_first c) bs)
  first_goes_on Class.Percent b bs = tt
  first_goes_on c b bs = class_goes_on c b bs

  run_goes_on : (goes : Bool) (within : Within) (c : Class) (b : ℕ) (bs : List ℕ) → FoundGoesOn at b bs (begins_after goes at c b bs)
      (tokens_from (at + 1) (after_run goes within c) bs)
  run_goes_on goes within c b bs = grind (arith, class_goes_on)

  begins_goes_on : (within : Within) (b : ℕ) (bs : List ℕ) → FoundGoesOn at b bs (begins at within b bs) (tokens_from (at + 1) (next within b) bs)
  begins_goes_on within b bs = grind (arith, first_goes_on, class_goes_on, run_goes_on)

  one_before : (b : ℕ) (bs : List ℕ) (ts : List Token) → AllGoOn (at + 1) bs ts → AllGoOn at (b ∷ bs) ts
  one_before b bs [] all = tt
  one_before b bs (t ∷ ts) all = (here, one_before b bs ts all.1)
    where
      here : GoesOn at (b ∷ bs) t ts
      here behind ends can = let later = all.0 _ ends can in (suc _, omega arith, later.2)

  onto_goes_on : (b : ℕ) (bs : List ℕ) (f : Found) (ts : List Token) → FoundGoesOn at b bs f ts → AllGoOn (at + 1) bs ts → AllGoOn at (b ∷ bs)
      (onto at f ts)
  onto_goes_on b bs f ts h1 h2 = grind (arith, one_before)

  end_goes_on : (within : Within) → AllGoOn at [] (at_end at within)
  end_goes_on within = grind arith

all_go_on : (at : ℕ) (within : Within) (s : List ℕ) → AllGoOn at s (tokens_from at within s)
all_go_on at within [] = end_goes_on at within
all_go_on at within (b ∷ bs) = onto_goes_on at b bs _ _ (begins_goes_on at within b bs) (all_go_on (at + 1) _ bs)

-- the token at which a list is cut
goes_on_at : (at : ℕ) (s : List ℕ) (given : List Token) (t : Token) (rest : List Token) → AllGoOn at s (given ++ t ∷ rest)
    → GoesOn at s t rest
goes_on_at at s [] t rest all = all.0
goes_on_at at s (g ∷ given) t rest all = goes_on_at at s given t _ all.1

-- ---- White space

behind_spaces : (n at : ℕ) (s : List ℕ) → tokens_from at outside (replicate n 32 ++ s) ≡ tokens_from (at + n) outside s
behind_spaces zero at s = grind arith
behind_spaces (suc n) at s = grind (arith, behind_spaces n)

abbrev column_or_outside : Bool → Within
column_or_outside true = column
column_or_outside false = outside

last_white_space : (at : ℕ) (first : Bool) (s : List ℕ)
    → tokens_from at outside ((if first then 10 else 32) ∷ s) ≡ tokens_from (at + 1) (column_or_outside first) s
last_white_space at first s = grind arith

behind_white_space : (n : ℕ) (first : Bool) (s : List ℕ)
    → tokens_of (white_space (suc n) first ++ s) ≡ tokens_from (suc n) (column_or_outside first) s
behind_white_space zero first s = grind arith
behind_white_space (suc n) first s =
    rw (other_first 32 ((replicate n 32 ++ last ∷ []) ++ s) refl)
    (ap (tokens_from 1 outside) (append_assoc (replicate n 32) (last ∷ []) s)
    ∙ behind_spaces n 1 (last ∷ s) ∙ last_white_space (1 + n) first s
    ∙ ap (λ place. tokens_from place (column_or_outside first) s) (omega arith))
  where
    last : ℕ
    last = if first then 10 else 32

-- ---- The law

pub texts_restart : TextsRestart
texts_restart u s given rest t cut ends can =
    elim (cases_Bool (has_mark (u ++ s))) [ inl mark ↦ closing 3 (rw (mark, tokens_of)) | inr mark ↦ closing 0 (rw (mark, tokens_of)) ]
  where
    closing : (k : ℕ) → tokens_of (u ++ s) ≡ tokens_from k column (drop k (u ++ s)) → rest ≡ tokens_of (white_space (length u) false ++ s)
    closing k same =
        let all = subst (AllGoOn k (drop k (u ++ s))) (sym same ∙ cut) (all_go_on k column (drop k (u ++ s))) in
        let found = goes_on_at k (drop k _) given t rest all (length u) ends can in
        let many : length u ≡ suc (k + found.0) = omega arith in
        found.2 ∙ ap (tokens_from (length u) outside) (drop-drop (suc found.0) k _ ∙ drop_at u s _ found.1)
        ∙ ap (λ n. tokens_from n outside s) many ∙ sym (behind_white_space (k + found.0) false s)
        ∙ ap (λ n. tokens_of (white_space n false ++ s)) (sym many)

-- ---- A lexer that begins there

length_of_white_space : (n : ℕ) (first : Bool) → suc n ≡ length (white_space (suc n) first)
length_of_white_space n first = grind (arith, length-append, length-replicate)

-- what is held outside all tokens
abbrev pub between : Bool → PartialToken
between first = record { mode = if first then LineStart else Outside; at = 0; text = [] }

begins_later : (n : ℕ) (first : Bool) → StandsAfter (record { count = suc n; held = between first }) (white_space (suc n) first) None []
begins_later n first = grind (arith, length_of_white_space, behind_white_space)

starts_first : StandsAfter (record { count = 0; held = record { mode = Start; at = 0; text = [] } }) [] None []
starts_first = record { count = refl; before = tt; tokens = λ s f. refl }

-- what is held outside all tokens, at the start or behind it
abbrev pub held_at : Bool → Bool → PartialToken
held_at is_start first = record { mode = if is_start then Start else if first then LineStart else Outside; at = 0; text = [] }

pub begins_at : (place : ℕ) (first : Bool) (h : PartialToken) → h ≡ held_at (place == 0) first
    → StandsAfter (record { count = place; held = h }) (white_space place first) None []
begins_at zero first h same = rw same starts_first
begins_at (suc n) first h same = let later : (suc n == 0) ≡ false = grind arith in rw (same, later) (begins_later n _)
