-- A token that is left behind the last piece, and what `finish` promises.
use Rattle.pgn_lexer.specs.Scanned.{token}
use Rattle.pgn_lexer.specs.Stands.{Finishes as FinishesLexer}
use Rattle.pgn_game.proofs.Words.{cases_order, coming, false≢true, lt-ltb, ltb-true, nat_lt, read, arith, ◌≤◌, ◌*◌, ◌^◌, waiting, Keeps, IsSound, common_steps, IsLastGame as IsLast, game_in_reader_if, ◌&&◌, Between, part_after, fault, ◌≡◌, ℕ, ◌+◌, ◌<◌, ◌↔◌, Bool, true, false, IsTrue, List, [], ◌∷◌, ◌++◌, length, Option, None, Some, Result, Ok, Err, refl, sym, ap, subst, ◌∙◌, Token, Game, Profile, Fault, LexFault, Lexical, Reason, Device, Converter, GameState, Standing, Stands, tokens_of, is_end, More, TakesToken, AfterFinish, Finishes, FinishesToFault, FinishedGame, SameGames, rules}
use Rattle.pgn_game.specs.steps.TokenTaken.{FinishesPlaced, TakesPlaced}
use Rattle.pgn_game.specs.steps.Flow.{Known, At, EndsGames, FinishesLeft, GoesAtEnd, ReadsOn, Start, StopsAt, ended, so_far, steps_until}
use Rattle.pgn_game.proofs.stepping.AcceptedToConverter.{has_read_more, now_at, read_as, same_games}
use Rattle.pgn_game.proofs.stepping.OneMoreToken.{read-passes}
use Rattle.pgn_game.proofs.flow.KnownResults.{since_start}
use Rattle.pgn_game.proofs.stepping.NoneBeforeFault.{none_before_fault}
use Rattle.pgn_game.proofs.stepping.ReadsInText.{between}
use Rattle.pgn_game.proofs.stepping.StepsAtEnd.{Left, Nearer, end_passes, sound_at_end, sound_behind, sound_finished, left_by, left_of, tokens_left, view_of}
use Rattle.pgn_game.proofs.flow.Stops.{IsShown, IsStopShown, StopsSince, gains_shown, stops_since}
use Rattle.pgn_game.proofs.flow.Takes.{closes, finished_at, stops, stops_lexical, takes_game, takes_more}

-- the game just finished stays so while no game is begun
with_last : (start : Start) (text : Known) (c : Converter) (tokens : List Token) (o : Option (List ℕ)) (last : Option FinishedGame) → At start text c tokens o
    → IsLast last (read start.profile tokens).progress.games → At start text (record c { just_finished = last }) tokens o
with_last start text c tokens o last here is = search (rules, read_as)

still_last : (games : List Game) (old new : GameState) (has between : Bool) → IsLast (game_in_reader_if has old) games → (between ≡ true → new ≡ old)
    → IsLast (game_in_reader_if (has && between) new) games
still_last games old new has between last same = search (rules, between)

-- A converter behind the last piece, and the token that the lexer gives.
module _ (lexer l : Standing) (reading new : GameState) (games : ℕ) (has : Bool) (t : Token) (gives : FinishesLexer lexer l (token t)) (d : Device) where
  abbrev old : Converter
  old = view_of lexer reading games has false None

  left_now : (s : List ℕ) (tokens : List Token) → tokens_of s ≡ tokens ++ coming lexer [] → Left s tokens (is_end t.kind) l t
  left_now s tokens left = left_by s tokens t.kind l t (gives.left s tokens left)

  -- it finishes no game, or is the end
  module _ (between : Bool) (takes : TakesToken reading t.kind new (Ok More) d) (is_between : between ≡ true → new.stage ≡ Between) where
    no_more : (start : Start) (s : List ℕ) (tokens : List Token) → At start (ended s) old tokens d.before → SameGames start.profile tokens (tokens ++ t ∷ [])
    no_more start s tokens here =
        let has_read = here.since.has_read in
        let h = takes.accepts (part_after start.profile tokens) has_read.agrees in search (rules, same_games)

    -- the end is accepted only between games
    between_at_end : (start : Start) (s : List ℕ) (tokens : List Token) → At start (ended s) old tokens d.before → is_end t.kind ≡ true → new.stage ≡ Between
    between_at_end start s tokens here is = search (rules, has_read_more, end_passes, read-passes)

    reads_at : (e : Bool) → is_end t.kind ≡ e → (start : Start) (s : List ℕ) (tokens : List Token) → At start (ended s) old tokens d.before
        → At start (ended s) (now_at l new games e) (tokens ++ t ∷ []) d.after
    reads_at true is start s tokens here = takes_more start (ended s) old tokens t l new d here.since true takes (λ over. (between_at_end start s tokens here is, is)) (sym (rw is at (left_now s tokens here.lexer))) tt
    reads_at false is start s tokens here = takes_more start (ended s) old tokens t l new d here.since false takes (λ over. absurd (false≢true over)) (rw is at (left_now s tokens here.lexer)) tt

    left_on : (e : Bool) → is_end t.kind ≡ e → ReadsOn old None (view_of l new games (has && between) e None) (Ok false) d
    left_on e is start (so_far s) tokens ahead here = absurd ahead
    left_on e is start (ended s) tokens ahead here = (
      tokens ++ t ∷ [],
      with_last start (ended s) (now_at l new games e) (tokens ++ t ∷ []) d.after (game_in_reader_if (has && between) new) (reads_at e is start s tokens here)
          (rw (no_more start s tokens here) (still_last (read start.profile tokens).progress.games reading new has between here.since.has_read.just_finished (λ b. takes.stays.0 (is_between b)))),
    )

  left_game : is_end t.kind ≡ false → FinishesPlaced reading t.kind t.at new d → ReadsOn old None (finished_at l new games) (Ok true) d
  left_game not_end takes start (so_far s) tokens ahead here = absurd ahead
  left_game not_end takes start (ended s) tokens ahead here = (
    tokens ++ t ∷ [],
    takes_game start (ended s) old tokens t l new d here.since takes (rw not_end at (left_now s tokens here.lexer)) tt,
    closes start (ended s) old tokens t l new d here.since takes tt,
  )

  left_stop : (reason : Reason) → TakesPlaced reading t.kind t.at new (Err reason) d → (now : Converter) → now.reading ≡ new → now.games ≡ games
      → ReadsOn old None now (Err (record { at = t.at; reason = reason })) d
  left_stop reason takes now is same start (so_far s) tokens ahead here = absurd ahead
  left_stop reason takes now is same start (ended s) tokens ahead here = search (rules, stops, tokens_left, left_now)

-- the same of fields that are known to be so
module _ (lexer l : Standing) (reading new : GameState) (games : ℕ) (has over : Bool) (fault : Option Fault) (going : over ≡ false) (none : fault ≡ None)
    (t : Token) (gives : FinishesLexer lexer l (token t)) (d : Device) where
  pub left_on_at : (between e : Bool) → TakesToken reading t.kind new (Ok More) d → (between ≡ true → new.stage ≡ Between) → is_end t.kind ≡ e
      → ReadsOn (view_of lexer reading games has over fault) None (view_of l new games (has && between) e fault) (Ok false) d
  left_on_at between e takes at is = rw (going, none) (left_on lexer l reading new games has t gives d between takes at e is)

  pub left_game_at : is_end t.kind ≡ false → FinishesPlaced reading t.kind t.at new d
      → ReadsOn (view_of lexer reading games has over fault) None (view_of l new (games + 1) true over fault) (Ok true) d
  left_game_at not_end takes = rw (going, none) (left_game lexer l reading new games has t gives d not_end takes)

  pub left_stop_at : (reason : Reason) → TakesPlaced reading t.kind t.at new (Err reason) d → (now : Converter) → now.reading ≡ new → now.games ≡ games
      → ReadsOn (view_of lexer reading games has over fault) None now (Err (record { at = t.at; reason = reason })) d
  left_stop_at reason takes now is same = rw (going, none) (left_stop lexer l reading new games has t gives d reason takes now is same)

-- the lexer rejects what is left
pub left_fault : (old : Converter) → old.is_finished ≡ false → {l : Standing} (f : LexFault) → FinishesLexer old.lexer l (fault f) → (now : Converter)
    → now.reading ≡ old.reading → now.games ≡ old.games → (o : Option (List ℕ)) (n : ℕ)
    → ReadsOn old None now (Err (record { at = f.at; reason = Lexical f.reason })) (between o o n n)
left_fault old going f gives now is same o n start (so_far s) tokens ahead here = absurd ahead
left_fault old going f gives now is same o n start (ended s) tokens ahead here =
    stops_lexical start (ended s) old tokens o here.since f ([], gives.left s tokens (rw going at here.lexer)) now is same

-- nothing is read, and from now on no game is just finished
pub lets_go : (c : Converter) (o : Option (List ℕ)) (n : ℕ) → ReadsOn c None (record c { just_finished = None }) (Ok false) (between o o n n)
lets_go c o n start text tokens ahead here = (tokens, with_last start text c tokens o None here tt)

-- a call that reads on, and one behind it
pub ends_then : (first mid new : Converter) (result : Result Bool Fault) (a b c : Option (List ℕ))
    → ReadsOn first None mid (Ok false) (between a b 0 0) → ReadsOn mid None new result (between b c 0 0) → ReadsOn first None new result (between a c 0 0)
ends_then first mid new result a b c one two start h1 tokens ahead here = search rules

-- after a game was finished reading goes on as after any token
pub goes_on : (first new : Converter) (a c : Option (List ℕ)) (finished : Bool) → ReadsOn first None new (Ok finished) (between a c 0 0) → ReadsOn first None new (Ok false) (between a c 0 0)
goes_on first new a c finished reads start text tokens ahead here = search rules

-- ---- how many steps are left

pub nearer_end : (old new : Standing) (e : Bool) → Nearer e old new → steps_until e (waiting new) < steps_until false (waiting old)
nearer_end old new e near = search rules

-- ---- the game just finished

-- Since there were so many games: a game that was finished since is held, while none is begun.
pub record Holds (first : ℕ) (now : Converter) : Type 0 where
  pub no_fewer : first ≤ now.games
  pub none_else : now.games ≡ first → now.just_finished ≡ None
  pub held : first < now.games → now.reading.stage ≡ Between → (finished : FinishedGame) × (now.just_finished ≡ Some finished)

pub holds_none : (now : Converter) → now.just_finished ≡ None → Holds now.games now
holds_none now none = record { no_fewer = omega arith; none_else = λ same. none; held = λ more. absurd (omega (arith, more)) }

pub holds_on : (first : ℕ) (mid new : Converter) (finished : Bool) (sink : Device) → Holds first mid → GoesAtEnd mid new (Ok finished) sink → Holds first new
holds_on first mid new finished sink holds goes = search rules

-- whether a game was finished since
pub ended_games : (old new : Converter) → Holds old.games new → (finished_game : Bool) → finished_game ≡ nat_lt old.games new.games → EndsGames false old new (Ok finished_game)
ended_games old new holds finished_game is = search (rules, ltb-true, cases_order, false≢true, lt-ltb)

-- A call that stops, or that no game ends: if a game would end it, none was finished.
pub stopped_games : (to_game : Bool) (old new : Converter) (f : Fault) → (to_game ≡ true → new.games ≡ old.games) → new.just_finished ≡ None → EndsGames to_game old new (Err f)
stopped_games to_game old new f same none = search rules

pub all_left : (to_game : Bool) (old new : Converter) → Holds old.games new → (to_game ≡ true → new.games ≡ old.games) → (finished_game : Bool)
    → finished_game ≡ nat_lt old.games new.games → EndsGames to_game old new (Ok finished_game) × ((to_game && finished_game) ≡ false)
all_left to_game old new holds same finished_game is = search (rules, ended_games, ltb-true)

-- ---- what `finish` promises

module _ (p : Profile) (u : List ℕ) (b : Option ℕ) (given : List Token) (old : Converter) (a : Option (List ℕ))
    (stands : Stands p old u b given) (going : old.is_finished ≡ false) where
  abbrev pub start : Start
  start = record { profile = p; count = length u; given = given; before = a; expected = None }

  pub begins : At start (ended u) old given a
  begins = search (rules, since_start, left_of, false≢true)

  pub fails : (f : Fault) (new : Converter) (c : Option (List ℕ)) → IsStopShown new.reading.writing.is_silent a f.reason
      → StopsAt start (ended u) f new c → FinishesToFault p u given new f a c
  fails f new c shown to =
      let to_tokens = stops_since start (ended u) f new c to to.next.0 refl shown in
      let all = subst (λ ts. StopsSince p given to.tokens ts f new.reading a c) (sym to.next.1) to_tokens in
      record {
        stops = all.stops;
        no_game = none_before_fault p u old.lexer (left_of old.lexer u b given stands.lexer) stands.has_read.passes all.stops;
        games = to.games ∙ to.since.has_read.games ∙ sym (ap (length {A = Game}) all.games);
        counts = all.counts;
        position = all.position;
      }

  pub finishes : (finished_game : Bool) (new : Converter) (tokens : List Token) (c : Option (List ℕ)) → At start (ended u) new tokens c → IsShown new.reading.writing.is_silent a
      → new.is_finished ≡ true → (IsTrue finished_game ↔ (old.games < new.games))
      → (finished_game ≡ true → (finished : FinishedGame) × (new.just_finished ≡ Some finished)) → (finished_game ≡ false → new.just_finished ≡ None)
      → Finishes p u given new finished_game a c
  finishes finished_game new tokens c at shown over counts some none =
      let all : tokens ≡ tokens_of u = rw over at at.lexer in
      record {
        has_read = rw all at at.since.has_read;
        game = rw (stands.has_read.games, at.since.has_read.games, all) at counts;
        just_finished = some;
        none_just_finished = none;
        gains = rw all at (gains_shown start new tokens c refl at.since shown);
      }

  by_games : (new : Converter) (tokens : List Token) (c : Option (List ℕ)) → At start (ended u) new tokens c → IsShown new.reading.writing.is_silent a
      → new.is_finished ≡ true → (finished_game : Bool) → EndsGames false old new (Ok finished_game) → Finishes p u given new finished_game a c
  by_games new tokens c at shown over true ends =
      finishes true new tokens c at shown over (λ yes. ends.0, λ less. refl) (λ yes. ends.1 (at.over over).0) (λ no. absurd (false≢true (sym no)))
  by_games new tokens c at shown over false ends =
      finishes false new tokens c at shown over (λ yes. absurd (false≢true yes), λ less. absurd (omega (arith, less, ends.0)))
      (λ yes. absurd (false≢true yes)) (λ no. ends.1)

  pub after_finish : (result : Result Bool Fault) (new : Converter) (c : Option (List ℕ)) (x y : ℕ) → IsShown new.reading.writing.is_silent a
      → ((f : Fault) → result ≡ Err f → IsStopShown new.reading.writing.is_silent a f.reason) → FinishesLeft false old new result (between a c x y)
      → AfterFinish p u given new result a c
  after_finish (Ok finished_game) new c x y shown stop_shown left =
      let there = left.reads start (ended u) given tt begins in search (rules, by_games)
  after_finish (Err f) new c x y shown stop_shown left = fails f new c (stop_shown f refl) (left.reads start (ended u) given tt begins)

-- ---- what a step keeps

both : (a b : Bool) → IsTrue (a && b) → IsTrue b
both a b h = search rules

-- a game just finished stays so while no game is begun
pub kept_or_none : (before after : GameState) (has between : Bool) → (after.stage ≡ Between → after ≡ before) → (after.stage ≡ Between → IsTrue between)
    → (game_in_reader_if has before ≡ None → game_in_reader_if (has && between) after ≡ None)
    × (after.stage ≡ Between → (before.stage ≡ Between) × (game_in_reader_if (has && between) after ≡ game_in_reader_if has before))
kept_or_none before after has between stays is = search (rules, false≢true)

-- ---- how small the counts stay

module _ (old new : Standing) (before after : GameState) (games : ℕ) where
  pub sound_game_at_end : {over : Bool} {fault : Option Fault} → waiting new < waiting old → new.count ≡ old.count → old.count ≤ 2 ^ 62
      → games + waiting old ≤ 2 * old.count + 2 → before.earlier_plies + before.text.plies + waiting old ≤ 2 * old.count + 2 → Keeps before after
      → after.stage ≡ Between → fault ≡ None → IsSound new after (games + 1) true over fault
  sound_game_at_end near same count few plies keeps at none = grind (arith, common_steps)

  pub sound_on : (e has between : Bool) {fault : Option Fault} → Nearer e old new → old.count ≤ 2 ^ 62 → games + waiting old ≤ 2 * old.count + 2
      → before.earlier_plies + before.text.plies + waiting old ≤ 2 * old.count + 2 → Keeps before after → (IsTrue between → after.stage ≡ Between) → fault ≡ None
      → IsSound new after games (has && between) e fault
  sound_on e has between near count few plies keeps at none = search (rules, sound_finished, sound_at_end, both, sound_behind)
