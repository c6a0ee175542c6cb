-- Steps behind the last piece, and how small the counts stay.
use Rattle.pgn_lexer.specs.Tokens as tokens
use Rattle.pgn_game.proofs.Words.{length, Kind, Token, Stage, Between, Reason, Fault, Profile, Pair, Item, Game, ◌≡◌, ℕ, ◌+◌, ◌<◌, ◌≤◌, Bool, true, false, List, [], ◌∷◌, ◌++◌, Option, None, Some, Err, refl, sym, subst, append-nil, append_assoc, arith, ◌*◌, ◌^◌, IsTrue, is_some, Device, tokens_of, Standing, StandsAfter, waiting, HasLeft, IsNext, FinishGivesToken, refusal, is_end, marker_of, next, progress_with, Progress, GameState, CountsWrites, Keeps, Converter, IsSound, game_in_reader_if, HasRead, CountsReason, rules, ap, ◌∙◌, none-some, false≢true, IsBeforePiece, IsBeforeToken, common_steps}
use Rattle.pgn_game.proofs.stepping.AcceptedToConverter.{follows_none, now_at, read_as}

-- what is left behind a token: nothing behind the end
abbrev pub Left : List ℕ → List Token → Bool → Standing → Token → Type 0
Left u given true l t = tokens_of u ≡ given ++ t ∷ []
Left u given false l t = HasLeft l u (given ++ t ∷ [])

pub left_by : (u : List ℕ) (given : List Token) (k : Kind) (l : Standing) (t : Token) → IsNext u given k l t → Left u given (is_end k) l t
left_by u given k l t h = search rules

-- a token was waiting, unless it is the end
abbrev pub Nearer : Bool → Standing → Standing → Type 0
Nearer true old new = new ≡ old
Nearer false old new = (waiting new < waiting old) × (new.count ≡ old.count)

pub nearer_by : (k : Kind) (old new : Standing) (t : Token) → new.count ≡ old.count → FinishGivesToken k old new t → Nearer (is_end k) old new
nearer_by k old new t same h = search rules

pub marker_or_end : (k : Kind) → IsTrue (is_some (marker_of k)) → is_end k ≡ false
marker_or_end k h = search rules

-- the tokens of the text begin so in either case
pub tokens_left : (u : List ℕ) (given : List Token) (e : Bool) (l : Standing) (t : Token)
    → Left u given e l t → (us : List Token) × (tokens_of u ≡ given ++ t ∷ us)
tokens_left u given e l t h = search (rules, append_assoc)

pub end_at : (p : Profile) (s : Stage) (ps : List Pair) (name : List ℕ) (items : List Item)
    → refusal p (record { stage = s; pairs = ps; name = name; items = items }) tokens.end ≡ None → s ≡ Between
unfolding refusal
end_at p s ps name items h = search (rules, none-some)

between_after : {s : Stage} (ps : List Pair) (name : List ℕ) (items : List Item) (games : List Game) → s ≡ Between
    → (progress_with games (next (record { stage = s; pairs = ps; name = name; items = items }) tokens.end)).part.stage ≡ Between
between_after {s} ps name items games e = grind (arith, common_steps)

pub is_the_end : (k : Kind) → is_end k ≡ true → k ≡ tokens.end
is_the_end k h = search rules

pub end_passes : (p : Profile) (b : Progress) (k : Kind) → is_end k ≡ true
    → refusal p b.part k ≡ None → (progress_with b.games (next b.part k)).part.stage ≡ Between
end_passes p b k e none =
    let k_is = is_the_end k e in
    subst (λ j. (progress_with b.games (next b.part j)).part.stage ≡ Between) (sym k_is)
    (between_after b.part.pairs b.part.name b.part.items b.games
    (end_at p b.part.stage b.part.pairs b.part.name b.part.items (rw k_is at none)))

pub let_go : (p : Profile) (c : Converter) (given : List Token) → HasRead p c given → HasRead p (record c { just_finished = None }) given
let_go p c given h = read_as h refl refl h.no_fault tt

-- an error of the reader counts as the fault that it is
pub counts_reason : (r : Reason) (sink : Device) → CountsWrites (Err r) sink → CountsReason r sink.failures sink.failures_after
counts_reason r sink h1 = search rules

-- after a fault a converter owes no more than that few bytes are used
module _ (lexer : Standing) (reading : GameState) (games : ℕ) (is_finished : Bool) where
  pub sound_behind_fault : (f : Fault) → lexer.count ≤ 2 ^ 62 → IsSound lexer reading games false is_finished (Some f)
  sound_behind_fault f count = search rules

-- a token behind the last piece keeps the counts small
module _ (old new : Standing) (before after : GameState) (games : ℕ) where
  pub sound_behind : {finished : Bool} {fault : Option Fault} → Nearer false old new → old.count ≤ 2 ^ 62
      → games + waiting old ≤ 2 * old.count + 2 → before.earlier_plies + before.text.plies + waiting old ≤ 2 * old.count + 2 → Keeps before after
      → IsSound new after games false finished fault
  sound_behind near count few plies keeps = grind (arith, common_steps, false≢true)

  -- the end keeps them as they are, or nearly
  pub sound_at_end : {fault : Option Fault} → Nearer true old new → old.count ≤ 2 ^ 62 → games + waiting old ≤ 2 * old.count + 2
      → before.earlier_plies + before.text.plies + waiting old ≤ 2 * old.count + 2 → Keeps before after → IsSound new after games false true fault
  sound_at_end near count few plies keeps = grind (arith, common_steps, false≢true)

  -- and so does one in a piece
  pub sound_in_piece : (used size : ℕ) {finished : Bool} {fault : Option Fault} → waiting new < 2 * used + waiting old
      → new.count ≡ old.count + used → used ≤ size → old.count + size ≤ 2 ^ 62 → games + waiting old ≤ 2 * old.count + 2
      → before.earlier_plies + before.text.plies + waiting old ≤ 2 * old.count + 2 → Keeps before after
      → IsSound new after games false finished fault
  sound_in_piece used size sooner count within short few plies keeps = grind (arith, common_steps, false≢true)

pub not_just_finished : (b : Bool) (r : GameState) → game_in_reader_if b r ≡ None → b ≡ false
not_just_finished b r h = search rules

pub left_of : (l : Standing) (u : List ℕ) (b : Option ℕ) (given : List Token) → StandsAfter l u b given → HasLeft l u given
left_of l u b given stands = ap tokens_of (sym (append-nil u)) ∙ stands.tokens [] (follows_none b)

-- while no game is just finished a converter owes no more
pub sound_at_none : (lexer : Standing) (reading : GameState) (games : ℕ) (has_finished_game is_finished : Bool) (fault : Option Fault)
    → IsSound lexer reading games has_finished_game is_finished fault → IsSound lexer reading games false is_finished fault
sound_at_none lexer reading games has_finished_game is_finished fault sound = search rules

-- ---- the fields of a converter

abbrev pub view_of : Standing → GameState → ℕ → Bool → Bool → Option Fault → Converter
view_of lexer reading games has_finished_game is_finished fault = record {
  lexer = lexer;
  reading = reading;
  games = games;
  just_finished = game_in_reader_if has_finished_game reading;
  is_finished = is_finished;
  fault = fault;
}

-- before a token
pub record FieldsBefore (lexer : Standing) (reading : GameState) (games : ℕ) (has_finished_game is_finished : Bool) (fault : Option Fault)
    (old : Converter) : Type 0 where
  pub flag : has_finished_game ≡ false
  pub not_over : is_finished ≡ false
  pub none : fault ≡ None
  pub sound : IsSound lexer reading games false false None
  pub same : now_at lexer reading games false ≡ old

pub fields_before : {lexer : Standing} {reading : GameState} {games : ℕ} {has_finished_game is_finished : Bool} {fault : Option Fault} {old : Converter}
    → view_of lexer reading games has_finished_game is_finished fault ≡ old → IsSound lexer reading games has_finished_game is_finished fault
    → IsBeforeToken old → FieldsBefore lexer reading games has_finished_game is_finished fault old
fields_before {reading = reading} {has_finished_game = has_finished_game} view sound before = grind (arith, common_steps, not_just_finished)

pub short_before : {view old : Converter} {piece : List ℕ} → view ≡ old → IsBeforePiece old piece → view.lexer.count + length piece ≤ 2 ^ 62
short_before view before = omega (arith, ap (λ (s : Converter). s.lexer.count) view, before.short)

-- behind the end a game counts as just finished only between games
pub sound_finished : (lexer : Standing) (reading : GameState) (games : ℕ) {had has is_finished : Bool} {fault : Option Fault}
    → IsSound lexer reading games had is_finished fault
    → (IsTrue has → reading.stage ≡ Between) → fault ≡ None → IsSound lexer reading games has is_finished fault
sound_finished lexer reading games sound between none = grind (arith, common_steps)
