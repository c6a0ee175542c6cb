-- The tokens that a lexer has left at the end of the input: they finish at most one game, and if
-- they pass, they leave none begun.
use Rattle.pgn_lexer.specs.declared.partial_token.CommentEnd.TheVariants as closes
use Rattle.pgn_lexer.specs.declared.partial_token.LexMode.{LexMode}
use Rattle.pgn_lexer.specs.declared.partial_token.LexMode.TheVariants as modes
use Rattle.pgn_lexer.specs.declared.partial_token.Text.TheVariants as texts
use Rattle.pgn_lexer.specs.declared.token.LexReason.TheVariants.{BadSuffix}
use Rattle.pgn_lexer.specs.Spelling.{suffix_at}
use Rattle.pgn_lexer.specs.Tokens as tokens
use Rattle.pgn_game.proofs.Words.{Kind, Token, Reason, Profile, Missing, Stage, Between, Pair, Item, Game, Part, no_part, ◌≡◌, ℕ, ◌<◌, Bool, true, false, List, [], ◌∷◌, ◌++◌, length, length-append, Option, None, Some, refl, ap, subst, ◌∙◌, append-nil, arith, inl, ◌⊎◌, IsLast, Standing, coming, refusal, if◌then◌else◌, LexReason, SymbolTooLong, WordTooLong, GlyphRange, gives, stops, onto, ◌==◌, tokens_to_come_in, text_of_games as text_of, torn, Progress, Next, Read, progress_after, progress_with, next, next_in, read_from, written_so_far as written, rules, nat_le}
use Rattle.pgn_game.proofs.stepping.OneMoreToken.{after_test, by_token, first_passes, goes_on, read_from-test}

reads_on : (p : Profile) (b : Progress) (t : Token) (ts : List Token) {o : Option Reason}
    → refusal p b.part t.kind ≡ o → read_from p b (t ∷ ts) ≡ after_test p b t ts o
reads_on p b t ts is = read_from-test p b t ts ∙ ap (after_test p b t ts) is

-- ---- tokens that finish no game

pub data IsQuiet : Kind → Type 0 where
  end : IsQuiet tokens.end
  word : (text : List ℕ) → IsQuiet (tokens.word text)
  close : IsQuiet tokens.comment_close
  refused : (r : LexReason) → IsQuiet (tokens.refused r)

quiet_in : (gs : List Game) (part : Part) (s : Stage) {k : Kind} → IsQuiet k → (progress_with gs (next_in s part k)).games ≡ gs
quiet_in gs part s h1 = search rules

quiet_next : (b : Progress) {k : Kind} → IsQuiet k → (progress_with b.games (next b.part k)).games ≡ b.games
quiet_next b quiet = quiet_in b.games b.part b.part.stage quiet

abbrev pub AreQuiet : List Token → Type 0
AreQuiet [] = Unit {0}
AreQuiet (t ∷ ts) = IsQuiet t.kind × AreQuiet ts

pub quiet_games : (p : Profile) (b : Progress) (ts : List Token) → AreQuiet ts → (read_from p b ts).progress.games ≡ b.games
quiet_games p b [] quiet = refl
quiet_games p b (t ∷ ts) (here, rest) =
    by_token p b t ts (λ r. r.progress.games ≡ b.games) (λ reason is. refl)
    (λ is. quiet_games p (progress_after b t) ts rest ∙ quiet_next b here)

quiet_front : (xs ys : List Token) → AreQuiet (xs ++ ys) → AreQuiet xs
quiet_front [] ys q = tt
quiet_front (x ∷ xs) ys (here, rest) = (here, quiet_front xs ys rest)

-- ---- the last tokens

abbrev pub HasLast : List Token → Type 0
HasLast [] = ⊥
HasLast (t ∷ []) = IsLast t.kind
HasLast (t ∷ u ∷ ts) = HasLast (u ∷ ts)

-- none of them finishes a game, or the first may, and then comes the end
data AreLast : List Token → Type 0 where
  quiet : (ts : List Token) → AreQuiet ts → HasLast ts → AreLast ts
  one : (t : Token) (at : ℕ) → AreLast (t ∷ record { at = at; kind = tokens.end } ∷ [])

end_passes : (p : Profile) → refusal p no_part tokens.end ≡ None
unfolding refusal
end_passes p = refl

abbrev pub AddsOne : List Game → Read → Type 0
AddsOne gs r = (r.progress.games ≡ gs) ⊎ ((r.fault ≡ None) × ((g : Game) × (r.progress.games ≡ gs ++ g ∷ [])))

last_games : (p : Profile) (b : Progress) {ts : List Token} → AreLast ts → AddsOne b.games (read_from p b ts)
last_games p b (quiet ts q has) = inl (quiet_games p b ts q)
last_games p b (one t at) = search (rules, by_token, quiet_games, reads_on, end_passes)

-- ---- the end

some-none : {A : Type 0} {x : A} → Some x ≡ None → ⊥
some-none e = cc

torn_between : (missing : Missing) (p : Profile) (ps : List Pair) (name : List ℕ) (items : List Item) → p.missing_result ≡ missing
    → torn p (record { stage = Between; pairs = ps; name = name; items = items }) ≡ []
torn_between missing p ps name items is = search rules

-- the end is accepted only where no game is begun
end_torn : (p : Profile) (gs : List Game) (stage : Stage) (ps : List Pair) (name : List ℕ) (items : List Item)
    → refusal p (record { stage = stage; pairs = ps; name = name; items = items }) tokens.end ≡ None
    → torn p (progress_with gs (next (record { stage = stage; pairs = ps; name = name; items = items }) tokens.end)).part ≡ []
unfolding refusal
end_torn p gs stage ps name items free = search (rules, torn_between, some-none)

last_torn : (p : Profile) (b : Progress) (place : ℕ) (k : Kind) → IsLast k → refusal p b.part k ≡ None
    → torn p (progress_after b (record { at = place; kind = k })).part ≡ []
unfolding refusal
last_torn p b place k last free = search (rules, some-none, end_torn)

pub none_torn : (p : Profile) (b : Progress) (ts : List Token) → HasLast ts
    → (read_from p b ts).fault ≡ None → torn p (read_from p b ts).progress.part ≡ []
none_torn p b [] has passes = absurd has
none_torn p b (t ∷ []) has passes = search (rules, first_passes, goes_on, last_torn)
none_torn p b (t ∷ u ∷ ts) has passes =
    let here = goes_on p b t (u ∷ ts) (first_passes p b t (u ∷ ts) passes) in
    rw here (none_torn p (progress_after b t) (u ∷ ts) has (rw here at passes))

-- ---- what a lexer has left

abbrev pub end_at : ℕ → Token
end_at place = record { at = place; kind = tokens.end }

abbrev pub token_at : ℕ → Kind → Token
token_at at k = record { at = at; kind = k }

-- nothing that finishes a game, or a NAG, or a symbol
pub data IsLeft (mode : LexMode) (place at : ℕ) (text : List ℕ) : List Token → Type 0 where
  none : (ts : List Token) → AreQuiet ts → HasLast ts → IsLeft mode place at text ts
  glyph : (n : ℕ) → IsLeft mode place at text (token_at at (tokens.glyph n) ∷ end_at place ∷ [])
  symbol : mode ≡ modes.Text texts.Symbol → IsLeft mode place at text (token_at at (tokens.symbol (text ++ [])) ∷ end_at place ∷ [])

symbol_left : {place at : ℕ} {text : List ℕ} (fits : Bool) → IsLeft (modes.Text texts.Symbol) place at text
    (onto at (if fits then gives (tokens.symbol (text ++ [])) else stops at SymbolTooLong) (end_at place ∷ []))
symbol_left true = symbol refl
symbol_left false = none _ (refused SymbolTooLong, tt) tt

glyph_left : {mode : LexMode} {place at : ℕ} (n : ℕ) {text : List ℕ} (fits : Bool)
    → IsLeft mode place at text (onto at (if fits then gives (tokens.glyph n) else stops at GlyphRange) (end_at place ∷ []))
glyph_left n true = glyph n
glyph_left n false = none _ (refused GlyphRange, tt) tt

one_of : {mode : LexMode} {place at : ℕ} {text : List ℕ} (c : Bool) (m n : ℕ)
    → IsLeft mode place at text (onto at (if c then gives (tokens.glyph m) else gives (tokens.glyph n)) (end_at place ∷ []))
one_of true m n = glyph m
one_of false m n = glyph n

one_of_four : {mode : LexMode} {place at : ℕ} {text : List ℕ} (c d : Bool)
    → IsLeft mode place at text (onto at (if c then (if d then gives (tokens.glyph 3) else gives (tokens.glyph 5))
    else (if d then gives (tokens.glyph 6) else gives (tokens.glyph 4))) (end_at place ∷ []))
one_of_four c d = search (rules, one_of)

suffix_left : {mode : LexMode} {place at : ℕ} {text : List ℕ} (run : List ℕ) → IsLeft mode place at text (onto at (suffix_at at run) (end_at place ∷ []))
suffix_left [] = none _ (refused BadSuffix, tt) tt
suffix_left (a ∷ []) = one_of (a == 33) 1 2
suffix_left (a ∷ b ∷ []) = one_of_four (a == 33) (b == 33)
suffix_left (a ∷ b ∷ c ∷ run) = none _ (refused BadSuffix, tt) tt

word_left : {mode : LexMode} {place at : ℕ} {text : List ℕ} (run : List ℕ) (fits : Bool) (t : Token) (ts : List Token)
    → AreQuiet (t ∷ ts) → HasLast (t ∷ ts)
    → IsLeft mode place at text (onto at (if fits then gives (tokens.word run) else stops at WordTooLong) (t ∷ ts))
word_left run true t ts q has = none _ (word run, q) has
word_left run false t ts q has = none _ (refused WordTooLong, tt) tt

pub left_in : (mode : LexMode) {place at : ℕ} {text : List ℕ} → IsLeft mode place at text (tokens_to_come_in mode place at text [])
left_in modes.Start = none _ (end, tt) tt
left_in modes.AfterEf = none _ (refused _, tt) tt
left_in modes.AfterEfBb = none _ (refused _, tt) tt
left_in modes.LineStart = none _ (end, tt) tt
left_in modes.Outside = none _ (end, tt) tt
left_in modes.EscapeLine = none _ (end, tt) tt
left_in (modes.Text texts.Symbol) {text} = symbol_left (nat_le (length (text ++ [])) 255)
left_in (modes.Text texts.Str) = none _ (refused _, tt) tt
left_in modes.AfterBackslash = none _ (refused _, tt) tt
left_in modes.Dollar = none _ (refused _, tt) tt
left_in (modes.Glyph n) = glyph_left _ _
left_in (modes.Text texts.Suffix) {text} = suffix_left (text ++ [])
left_in (modes.Comment closes.Brace) = none _ (refused _, tt) tt
left_in (modes.Comment closes.LineEnd) = none _ (close, (end, tt)) tt
left_in (modes.Text (texts.Word closes.Brace)) = word_left _ _ _ _ (refused _, tt) tt
left_in (modes.Text (texts.Word closes.LineEnd)) = word_left _ _ _ _ (close, (end, tt)) tt
left_in (modes.Failed f) = none _ (refused _, tt) tt

left_last : {mode : LexMode} {place at : ℕ} {text : List ℕ} {ts : List Token} → IsLeft mode place at text ts → AreLast ts
left_last (none ts q has) = quiet ts q has
left_last {place} (glyph n) = one _ place
left_last {place} (symbol is) = one _ place

left : (l : Standing) → AreLast (coming l [])
left l = left_last (left_in l.held.mode)

module _ (p : Profile) (b : Progress) (l : Standing) where
  pub left_games : AddsOne b.games (read_from p b (coming l []))
  left_games = last_games p b (left l)

  -- if they pass, all that is due is the text of games
  pub left_none_begun : (read_from p b (coming l [])).fault ≡ None
      → written p (read_from p b (coming l [])).progress ≡ text_of p (read_from p b (coming l [])).progress.games
  left_none_begun passes = search (rules, append-nil, left, none_torn)

  -- ---- a write that fails among them

  -- The token at fault adds to what is due, and so no game was finished before it: behind a game
  -- there is only the end, which adds nothing.
  pub none_finished_before : (front : List Token) (token : Token) (rest : List Token) → coming l [] ≡ front ++ token ∷ rest
      → (read_from p b (front ++ token ∷ [])).fault ≡ None
      → length (written p (read_from p b front).progress) < length (written p (read_from p b (front ++ token ∷ [])).progress)
      → (read_from p b front).progress.games ≡ b.games
  none_finished_before front token rest cut passes more = by_last front (coming l []) (left l) cut passes more
    where
      by_next : (m last : Token) (nx : Next) → last.kind ≡ tokens.end → next b.part m.kind ≡ nx
          → length (written p (progress_after b m)) < length (written p (progress_after (progress_after b m) last))
          → (progress_after b m).games ≡ b.games
      by_next m last nx is leads more = search rules

      by_last : (front ts : List Token) → AreLast ts → ts ≡ front ++ token ∷ rest → (read_from p b (front ++ token ∷ [])).fault ≡ None
          → length (written p (read_from p b front).progress) < length (written p (read_from p b (front ++ token ∷ [])).progress)
          → (read_from p b front).progress.games ≡ b.games
      by_last [] ts last cut passes more = refl
      by_last (m ∷ mid) _ (quiet ts q has) cut passes more =
          quiet_games p b (m ∷ mid) (quiet_front (m ∷ mid) (token ∷ rest) (subst AreQuiet cut q))
      by_last (m ∷ []) _ (one t at) cut passes more = search (rules, first_passes, goes_on, by_next)
      by_last (m ∷ n ∷ mid) _ (one t at) cut passes more = absurd (omega (arith, ap (length {A = Token}) cut, length-append mid (token ∷ rest)))
