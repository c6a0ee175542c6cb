-- **Definition**: what a contract sees of `Games`, and what each call does to them.
-- Letters: p is the profile, f a fault, r the reader, u are the bytes that the source has given
-- before a call, and `more` those that it gives during it. `given` are the tokens read before a
-- call, and `tokens` those read when it ends. `left` are the bytes that the source has left, if it
-- reports them; `left_old` and `left_new` are these before a call and after it. `source` and `sink`
-- are the devices before a call and after it, `before` and `after` the bytes that the sink has
-- taken.
use Rattle.std.specs.Prelude.{◌≡◌, ℕ, ◌+◌, ◌-◌, ◌^◌, ◌<◌, ◌≤◌, Bool, true, false, List, [], ◌∷◌, ◌++◌, length, take, Option, None, Some, Result, Ok, Err}
use Rattle.std.specs.Io.KnownBytes.{Consumes, IsAtEnd}
use Rattle.pgn_layout.specs.Device.{Device}
use Rattle.pgn_lexer.specs.Tokens.{Token}
use Rattle.pgn_lexer.specs.TokensOf.{tokens_of}
use Rattle.pgn_lexer.specs.Stands.{IsDecided, first}
use Rattle.pgn_game.specs.declared.reason.Reason.TheVariants.{ReadFault, InputTooLong}
use Rattle.pgn_game.specs.declared.reason.Fault.{Fault}
use Rattle.pgn_game.specs.games.Profile.{Profile}
use Rattle.pgn_game.specs.games.Game.{Game}
use Rattle.pgn_game.specs.export.Text.{text_of}
use Rattle.pgn_game.specs.games.Progress.{read, due}
use Rattle.pgn_game.specs.export.Due.{Gains}
use Rattle.pgn_game.specs.public.ConverterCalls.{Converter, finished_game_of, HasRead, Stands, AreNext, within_limit, Stops, games_before, ProbesAtStop, ReadsUpTo}
use Rattle.pgn_game.specs.steps.GameState.{GameState}

-- ---- what was read so far

-- the converter, and the bytes that were read and are not used yet
pub record Games : Type 0 where
  pub converter : Converter
  pub unused : List ℕ

-- the same, of its parts
abbrev pub games_of : Converter → List ℕ → Games
games_of converter unused = record { converter = converter; unused = unused }

-- of the bytes that are not used yet, those before place 2^62
abbrev pub ahead_of : List ℕ → List ℕ → List ℕ
ahead_of used unused = take (2 ^ 62 - length used) unused

-- The converter stands after the bytes `used`, and the other bytes that the source gave are not
-- used yet. Those before place 2^62 decide the tokens read. The end of the text was not read.
pub record HasReadWithin (p : Profile) (u : List ℕ) (games : Games) (given : List Token) : Type 0 where
  pub used : List ℕ
  pub bytes : u ≡ used ++ games.unused
  pub stands : Stands p games.converter used (first (ahead_of used games.unused)) given
  pub decided : IsDecided used (ahead_of used games.unused) given
  pub not_finished : games.converter.is_finished ≡ false

-- The source is at its end, so u is the whole text. It has at most 2^62 bytes, and all its tokens
-- were read. No game is begun after them: all that is due is the text of finished games.
pub record HasReadAll (p : Profile) (left : Option (List ℕ)) (u : List ℕ) (games : Games) (given : List Token) : Type 0 where
  pub at_end : IsAtEnd left
  pub short : length u ≤ 2 ^ 62
  pub whole : given ≡ tokens_of u
  pub none_begun : due p given ≡ text_of p (read p given).progress.games
  pub has_read : HasRead p games.converter given
  pub finished : games.converter.is_finished ≡ true

-- The source has given the bytes u, and of these the tokens `given` were read: none is rejected,
-- and the converter is what they lead to.
pub data HaveRead (p : Profile) (left : Option (List ℕ)) (u : List ℕ) (games : Games) (given : List Token) : Type 0 where
  within : HasReadWithin p u games given → HaveRead p left u games given
  at_end : HasReadAll p left u games given → HaveRead p left u games given

-- What all calls so far have read and written together: what is due for the tokens read.
pub record ReadSoFar (p : Profile) (left_old left_now : Option (List ℕ)) (now : Games) (before after : Option (List ℕ)) : Type 0 where
  pub bytes : List ℕ
  pub tokens : List Token
  pub consumed : Consumes left_old left_now bytes
  pub have_read : HaveRead p left_now bytes now tokens
  pub gains : Gains p [] tokens before after

-- If no token of the games was read before `write_nothing`, none is read after it.
abbrev pub StillReadNone : Games → Games → Type 0
StillReadNone old new =
    (p : Profile) (left : Option (List ℕ)) (u : List ℕ) → HaveRead p left u old [] → HaveRead p left u new []

-- ---- what a call of `next` does

-- One game more was read. All its text is written, and nothing of a game after it. The bytes before
-- place 2^62 decide the tokens up to its marker, or the source has ended.
pub record NextGame (p : Profile) (u : List ℕ) (given : List Token) (left_old left_new : Option (List ℕ)) (new : Games) (before after : Option (List ℕ)) : Type 0 where
  pub more : List ℕ
  pub consumed : Consumes left_old left_new more
  pub tokens : List Token
  pub have_read : HaveRead p left_new (u ++ more) new tokens
  pub next : new.converter.is_finished ≡ false → AreNext (within_limit (u ++ more)) tokens
  pub game : Game
  pub one_game : (read p tokens).progress.games ≡ (read p given).progress.games ++ game ∷ []
  pub just_finished : new.converter.just_finished ≡ Some (finished_game_of game)
  pub whole : due p tokens ≡ text_of p (read p tokens).progress.games
  pub gains : Gains p given tokens before after

-- The source has ended, and no game was left.
pub record NoGame (p : Profile) (u : List ℕ) (given : List Token) (left_old left_new : Option (List ℕ)) (new : Games) (before after : Option (List ℕ)) : Type 0 where
  pub more : List ℕ
  pub consumed : Consumes left_old left_new more
  pub have_read_all : HasReadAll p left_new (u ++ more) new (tokens_of (u ++ more))
  pub no_game : (read p (tokens_of (u ++ more))).progress.games ≡ (read p given).progress.games
  pub none_just_finished : new.converter.just_finished ≡ None
  pub gains : Gains p given (tokens_of (u ++ more)) before after

-- One of the tokens that these bytes decide is rejected, or a write failed. No game was finished
-- before. r is the reader, which has counted the pairs tried.
pub record StopsAtToken (p : Profile) (bytes : List ℕ) (given : List Token) (r : GameState) (f : Fault) (before after : Option (List ℕ)) : Type 0 where
  pub tokens : List Token
  pub next : AreNext bytes tokens
  pub stops : Stops p given tokens before after f
  pub no_game : games_before stops ≡ (read p given).progress.games
  pub counts : ProbesAtStop r.writing.is_silent stops r.most_probes

-- The same for the tokens of the text u, whose end was read.
pub record StopsAtEnd (p : Profile) (u : List ℕ) (given : List Token) (r : GameState) (f : Fault) (before after : Option (List ℕ)) : Type 0 where
  pub stops : Stops p given (tokens_of u) before after f
  pub no_game : games_before stops ≡ (read p given).progress.games
  pub counts : ProbesAtStop r.writing.is_silent stops r.most_probes

-- All tokens that the bytes u decide were read. None is rejected, none finished a game, and what
-- they gain was written.
pub record ReadsNoGame (p : Profile) (given : List Token) (u : List ℕ) (before after : Option (List ℕ)) : Type 0 where
  pub reads : ReadsUpTo p given u before after
  pub no_game : (read p reads.tokens).progress.games ≡ (read p given).progress.games

-- How a call stops.
-- - `at_token`: at a token that the bytes before place 2^62 decide.
-- - `at_end`: at a token of the whole text, which has at most 2^62 bytes.
-- - `unread`: a read failed.
-- - `too_long`: the source has given the byte at place 2^62.
pub data NextStops (p : Profile) (u : List ℕ) (given : List Token) (left_old left_new : Option (List ℕ)) (r : GameState) (before after : Option (List ℕ)) : Fault → Type 0 where
  at_token : (f : Fault) (more : List ℕ) → Consumes left_old left_new more → StopsAtToken p (within_limit (u ++ more)) given r f before after
      → NextStops p u given left_old left_new r before after f
  at_end : (f : Fault) (more : List ℕ) → Consumes left_old left_new more → IsAtEnd left_new → length (u ++ more) ≤ 2 ^ 62
      → StopsAtEnd p (u ++ more) given r f before after
      → NextStops p u given left_old left_new r before after f
  unread : (more : List ℕ) → Consumes left_old left_new more → length (u ++ more) ≤ 2 ^ 62 → ReadsNoGame p given (u ++ more) before after
      → NextStops p u given left_old left_new r before after (record { at = length (u ++ more); reason = ReadFault })
  too_long : (more front rest : List ℕ) → Consumes left_old left_new more → u ++ more ≡ front ++ rest → length front ≡ 2 ^ 62 → 0 < length rest
      → ReadsNoGame p given front before after
      → NextStops p u given left_old left_new r before after (record { at = 2 ^ 62; reason = InputTooLong })

-- Reading stopped. The games finished before the call stay counted, and none is just finished.
pub record NextFault (p : Profile) (u : List ℕ) (given : List Token) (left_old left_new : Option (List ℕ)) (new : Games) (f : Fault) (before after : Option (List ℕ)) : Type 0 where
  pub stops : NextStops p u given left_old left_new new.converter.reading before after f
  pub games : new.converter.games ≡ length (read p given).progress.games
  pub none_just_finished : new.converter.just_finished ≡ None

-- What `next` results in: a game was read (`true`), no game was left (`false`), or reading stopped.
abbrev pub AfterNext : Profile → List ℕ → List Token → Option (List ℕ) → Option (List ℕ) → Games → Result Bool Fault → Option (List ℕ) → Option (List ℕ) → Type 0
AfterNext p u given left_old left_new new (Ok true) before after = NextGame p u given left_old left_new new before after
AfterNext p u given left_old left_new new (Ok false) before after = NoGame p u given left_old left_new new before after
AfterNext p u given left_old left_new new (Err f) before after = NextFault p u given left_old left_new new f before after

-- What `next` does to games that have read any bytes of the source.
abbrev pub ReadsNext : Games → Games → Result Bool Fault → Device → Device → Type 0
ReadsNext old new result source sink =
    (p : Profile) (u : List ℕ) (given : List Token) → HaveRead p source.before u old given
    → AfterNext p u given source.before source.after new result sink.before sink.after

-- After the end of the source each call returns `false` again and touches neither device. No game
-- is just finished then.
abbrev pub NextAtEnd : {R W : Type 0} → Games → Games → Result Bool Fault → R → R → W → W → Type 0
NextAtEnd old new result source_old source_new out_old out_new =
    old.converter.fault ≡ None → old.converter.is_finished ≡ true
    → (result ≡ Ok false) × (new ≡ games_of (record old.converter { just_finished = None }) old.unused) × (source_new ≡ source_old) × (out_new ≡ out_old)

-- After a fault each call returns it again, and nothing changes.
abbrev pub NextAgain : {R W : Type 0} → Games → Games → Result Bool Fault → R → R → W → W → Type 0
NextAgain old new result source_old source_new out_old out_new =
    (f : Fault) → old.converter.fault ≡ Some f
    → (result ≡ Err f) × (new ≡ old) × (source_new ≡ source_old) × (out_new ≡ out_old)

-- A bound on the games that are still to come: each game lowers it.
abbrev pub most_left_behind : Bool → ℕ → ℕ
most_left_behind true games = 0
most_left_behind false games = 1 + (2 ^ 64 - games)

abbrev pub most_left : Games → ℕ
most_left games = most_left_behind games.converter.is_finished games.converter.games
