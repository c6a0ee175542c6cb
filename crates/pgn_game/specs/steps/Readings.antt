-- **Bookkeeping**: one of the two readings of an input that is read twice, and what its calls do.
-- Letters: q is a profile, in which a missing Result takes the marker. r is a reading, s a text, u
-- are bytes, t is a token, ts are tokens, m is a placed marker, ms and ns are placed markers, f is
-- a fault. `given` are the tokens read before a call, and `tokens` those read when it ends.
-- `left_old` are the bytes that the source had before the first call, and `left_now` those that it
-- has left now. `left_before` and `left_after` (or `left_new`) are those that it has left before
-- and after a call. `old` and `new` are the reading then, and `before` and `after` the bytes that
-- the sink has taken.
use Rattle.pgn_game.specs.public.Conversion.{CountsResult}
use Rattle.std.specs.Prelude.{◌≡◌, ℕ, ◌+◌, ◌^◌, ◌<◌, ◌≤◌, Bool, true, false, List, [], ◌∷◌, ◌++◌, length, drop, Option, None, Some, Result, Ok, Err, IfSome}
use Rattle.std.specs.Io.KnownBytes.{Appends, Consumes}
use Rattle.pgn_layout.specs.Device.{AppendsFront, Device}
use Rattle.pgn_lexer.specs.Tokens.{Token}
use Rattle.pgn_lexer.specs.TokensOf.{tokens_of}
use Rattle.pgn_lexer.specs.Decided.{decided}
use Rattle.pgn_lexer.specs.Standing.{Standing}
use Rattle.pgn_lexer.specs.Stands.{HasLeft}
use Rattle.pgn_game.specs.declared.marker.PlacedMarker.{PlacedMarker as CodePlacedMarker}
use Rattle.pgn_game.specs.declared.reason.Reason.{Reason}
use Rattle.pgn_game.specs.declared.reason.Reason.TheVariants.{ReadFault, WriteFault, InputTooLong, Changed}
use Rattle.pgn_game.specs.declared.reason.Fault.{Fault}
use Rattle.pgn_game.specs.games.Markers.{marker_text}
use Rattle.pgn_game.specs.games.Profile.{Profile, takes_the_marker}
use Rattle.pgn_game.specs.games.Game.{Game, no_part}
use Rattle.pgn_game.specs.games.FaultTable.{refusal}
use Rattle.pgn_game.specs.export.Text.{game_text, text_of, torn}
use Rattle.pgn_game.specs.games.Progress.{no_progress, read}
use Rattle.pgn_game.specs.export.Due.{gain}
use Rattle.pgn_game.specs.public.ConverterCalls.{Converter, AreShown, within_limit, HasRead, KeepsFault}
use Rattle.pgn_game.specs.steps.ConverterSteps.{IsGoing, OneGame, SameGames, part_after}
use Rattle.pgn_game.specs.steps.Flow.{At, Closes, Known, KnowsResult, Since, StandsInText, Start, StopsAt, ended, games_in, is_over, so_far}
use Rattle.pgn_game.specs.public.Checked.{PlacedMarker, markers, markers_from, is_changed, compared_from, with_marker}

-- a reading: its converter, the bytes that were read and are not used yet, and whether the source
-- has ended
pub record Reading : Type 0 where
  pub converter : Converter
  pub unused : List ℕ
  pub has_ended : Bool

-- the reading of these parts
abbrev pub reading_of : Converter → List ℕ → Bool → Reading
reading_of converter unused has_ended = record { converter = converter; unused = unused; has_ended = has_ended }

-- a placed marker of the code as one of `Checked`: its text and its place
abbrev pub model_marker : CodePlacedMarker → PlacedMarker
model_marker m = record { text = marker_text m.marker; at = m.at }

-- What is known of the text of a source that has given the bytes u, by whether it has ended. Only
-- the bytes before place 2^62 are read.
abbrev pub known_by : Bool → List ℕ → Known
known_by false u = so_far (within_limit u)
known_by true u = ended u

-- The lexer has given these tokens of that text.
abbrev pub HasGivenIn : Known → Standing → List Token → Type 0
HasGivenIn (so_far s) l given = StandsInText s l given
HasGivenIn (ended s) l given = HasLeft l s given

-- Of the bytes u so many are used.
-- - If the source has not ended (`false`), the other ones are stored.
-- - If it has ended (`true`), u is its whole text, has at most 2^62 bytes, and all are used.
abbrev pub Stores : Bool → ℕ → List ℕ → List ℕ → Option (List ℕ) → Type 0
Stores false used unused u left_old = drop used u ≡ unused
Stores true used unused u left_old = (used ≡ length u) × (length u ≤ 2 ^ 62) × IfSome left_old (λ s. s ≡ u)

-- The source has given the bytes u so far.
pub record SourceGives (left_old left_now : Option (List ℕ)) (r : Reading) (u : List ℕ) : Type 0 where
  pub consumed : Consumes left_old left_now u
  pub stores : Stores r.has_ended r.converter.lexer.count r.unused u left_old

-- The reading has read these tokens by the profile q, in which a missing Result takes the marker.
-- None of them is rejected.
pub record HasGiven (q : Profile) (left_old left_now : Option (List ℕ)) (r : Reading) (given : List Token) : Type 0 where
  pub takes : q.missing_result ≡ takes_the_marker
  pub bytes : List ℕ
  pub source : SourceGives left_old left_now r bytes
  pub lexer : HasGivenIn (known_by r.has_ended bytes) r.converter.lexer given
  pub has_read : HasRead q r.converter given

-- If no token was read before `write_nothing`, none is read after it.
abbrev pub StillGivenNone : Reading → Reading → Type 0
StillGivenNone old new =
    (q : Profile) (left_old left_now : Option (List ℕ)) → HasGiven q left_old left_now old [] → HasGiven q left_old left_now new []

-- The reason that the second reading reports, if its converter reports this one. A failed read or
-- write stays what it is. Any other fault shows that the inputs differ.
abbrev pub changed_reason : Reason → Reason
changed_reason ReadFault = ReadFault
changed_reason WriteFault = WriteFault
changed_reason _ = Changed

-- the fault that the second reading reports then, at the same place
abbrev pub as_changed : Fault → Fault
as_changed f = record { at = f.at; reason = changed_reason f.reason }

-- no sink: no bytes are reported, and no failure is counted
abbrev pub no_sink : Device
no_sink = record { before = None; after = None; failures = 0; failures_after = 0 }

-- In the text of the source t comes next after the tokens `given`. The bytes of the text before
-- place 2^62 show this.
abbrev pub ComesNext : Option (List ℕ) → List Token → Token → Type 0
ComesNext left_old given t = IfSome left_old (λ s. AreShown s (given ++ t ∷ []))

-- How reading ends with no token at fault, where the bytes u of the source decide the tokens
-- `given`. Either a read failed after u. Or u has 2^62 bytes, and the source has given more.
pub data ReadFails (left_old left_new : Option (List ℕ)) (given : List Token) : Fault → Type 0 where
  unread : (u : List ℕ) → Consumes left_old left_new u → length u ≤ 2 ^ 62 → given ≡ decided u
      → ReadFails left_old left_new given (record { at = length u; reason = ReadFault })
  too_long : (u rest : List ℕ) → Consumes left_old left_new (u ++ rest) → length u ≡ 2 ^ 62 → 0 < length rest → given ≡ decided u
      → ReadFails left_old left_new given (record { at = length u; reason = InputTooLong })

-- ---- up to the end of a game

-- A call begins at this start: the reading has read the tokens given, of the bytes u that its
-- source has given.
pub record BeginsAt (left_old left : Option (List ℕ)) (start : Start) (r : Reading) (u : List ℕ) (before : Option (List ℕ)) : Type 0 where
  pub source : SourceGives left_old left r u
  pub count : r.converter.lexer.count ≡ start.count
  pub lexer : HasGivenIn (known_by r.has_ended u) r.converter.lexer start.given
  pub has_read : HasRead start.profile r.converter start.given
  pub known : r.converter.reading.writing.is_silent ≡ false → KnowsResult start.expected start.profile r.converter.reading
  pub going : r.converter.is_finished ≡ false
  pub begun : before ≡ start.before

-- All tokens that the bytes u decide were read. `new` still has the reader of `now`.
pub record ReadsAllOf (start : Start) (u : List ℕ) (new : Converter) (after : Option (List ℕ)) : Type 0 where
  pub now : Converter
  pub same : new.reading ≡ now.reading
  pub games : new.games ≡ now.games
  pub left : HasLeft now.lexer u (decided u)
  pub since : Since start now (decided u) after

-- How a reading stops before the end of a game.
-- - `at_token`: a token was not taken, which comes next in the text.
-- - `at_read`: all tokens that the bytes u decide were read, and none is at fault.
-- Even if the source does not report its text, there is one with these tokens.
pub data ReadingStops (start : Start) (left_old left_new : Option (List ℕ)) (f : Fault) (new : Converter) (after : Option (List ℕ)) : Type 0 where
  at_token : (text : Known) (h : StopsAt start text f new after) → ComesNext left_old h.tokens h.token
      → ReadingStops start left_old left_new f new after
  at_read : (u : List ℕ) → ReadFails left_old left_new (decided u) f → ReadsAllOf start u new after
      → ReadingStops start left_old left_new f new after

-- What `read_to_game_end` results in: a game was finished, the end of the text was read, or reading
-- stopped.
abbrev pub AfterGameEnd : Start → Option (List ℕ) → Option (List ℕ) → Reading → Result Bool Fault → Option (List ℕ) → Type 0
AfterGameEnd start left_old left_new new (Ok true) after =
    (u : List ℕ) × SourceGives left_old left_new new u × (tokens : List Token) × At start (known_by new.has_ended u) new.converter tokens after
    × Closes start (known_by new.has_ended u) new.converter tokens
AfterGameEnd start left_old left_new new (Ok false) after =
    (u : List ℕ) × Stores true new.converter.lexer.count new.unused u left_old × (tokens : List Token) × At start (ended u) new.converter tokens after
AfterGameEnd start left_old left_new new (Err f) after = ReadingStops start left_old left_new f new.converter after

-- What `read_to_game_end` does to a reading, and what it counts.
pub record ReadsToGameEnd (old new : Reading) (result : Result Bool Fault) (source sink : Device) : Type 0 where
  pub reads : (start : Start) (left_old : Option (List ℕ)) (u : List ℕ) → BeginsAt left_old source.before start old u sink.before
      → AfterGameEnd start left_old source.after new result sink.after
  pub games : new.converter.games ≡ old.converter.games + games_in result
  pub few : result ≡ Ok true → old.converter.games < 2 ^ 64
  pub finished : new.converter.is_finished ≡ is_over true result
  pub fault : KeepsFault new.converter result
  pub counted : CountsResult result source sink

-- ---- one game

-- The reading has read these tokens, and no game is begun after them.
pub record StandsBetween (q : Profile) (left_old left_now : Option (List ℕ)) (given : List Token) (now : Reading) : Type 0 where
  pub has_given : HasGiven q left_old left_now now given
  pub between : part_after q given ≡ no_part

-- The markers of the tokens `given` are ms, whatever tokens ts come after them.
abbrev pub HasMarkers : Profile → List Token → List PlacedMarker → Type 0
HasMarkers q given ms = (ts : List Token) → markers q (given ++ ts) ≡ ms ++ markers_from q (read q given).progress ts

-- The tokens `given` of the second reading are compared with the markers ms of the first. They show
-- no difference, and of these markers `left` are still to come. This holds whatever markers ns and
-- tokens ts come after them.
abbrev pub HasMatched : Profile → List PlacedMarker → List Token → List PlacedMarker → Type 0
HasMatched q ms given left =
    (ns : List PlacedMarker) (ts : List Token) → compared_from q (ms ++ ns) no_progress (given ++ ts) ≡ compared_from q (left ++ ns) (read q given).progress ts

-- The first reading has read one game more, and its marker is m.
pub record GameRead (q : Profile) (left_old left_new : Option (List ℕ)) (given : List Token) (m : CodePlacedMarker) (new : Reading) : Type 0 where
  pub tokens : List Token
  pub stands : StandsBetween q left_old left_new tokens new
  pub marked : (ms : List PlacedMarker) → HasMarkers q given ms → HasMarkers q tokens (ms ++ model_marker m ∷ [])

-- The first reading has read the whole text, which has at most 2^62 bytes. There is no marker more
-- than before.
pub record AllRead (q : Profile) (left_old : Option (List ℕ)) (given : List Token) (new : Reading) : Type 0 where
  pub tokens : List Token
  pub whole : IfSome left_old (λ s. (length s ≤ 2 ^ 62) × (tokens_of s ≡ tokens))
  pub has_read : HasRead q new.converter tokens
  pub marked : (ms : List PlacedMarker) → HasMarkers q given ms → HasMarkers q tokens ms

-- Why the first reading stops after `tokens`: the next token is rejected, or reading ends with no
-- token at fault.
pub data WhyFirst (q : Profile) (left_old left_new : Option (List ℕ)) (tokens : List Token) : Fault → Type 0 where
  refused : (t : Token) (reason : Reason) → ComesNext left_old tokens t → refusal q (part_after q tokens) t.kind ≡ Some reason
      → WhyFirst q left_old left_new tokens (record { at = t.at; reason = reason })
  unread : (f : Fault) → ReadFails left_old left_new tokens f → WhyFirst q left_old left_new tokens f

-- The first reading stops with the fault f, after `tokens`. None of them is rejected, and there is
-- no marker more than before.
pub record FirstFails (q : Profile) (left_old left_new : Option (List ℕ)) (given : List Token) (f : Fault) : Type 0 where
  pub tokens : List Token
  pub passes : (read q tokens).fault ≡ None
  pub marked : (ms : List PlacedMarker) → HasMarkers q given ms → HasMarkers q tokens ms
  pub why : WhyFirst q left_old left_new tokens f

-- What `read_game` results in: a game was read, the whole text was read, or reading stopped.
abbrev pub AfterRead : Profile → Option (List ℕ) → Option (List ℕ) → List Token → Reading → Result (Option CodePlacedMarker) Fault → Type 0
AfterRead q left_old left_new given new (Ok (Some m)) = GameRead q left_old left_new given m new
AfterRead q left_old left_new given new (Ok None) = AllRead q left_old given new
AfterRead q left_old left_new given new (Err f) = FirstFails q left_old left_new given f

-- What `read_game` does to the first reading, if no game is begun.
abbrev pub ReadsGame : Option (List ℕ) → Option (List ℕ) → Reading → Reading → Result (Option CodePlacedMarker) Fault → Type 0
ReadsGame left_before left_after old new result =
    (q : Profile) (left_old : Option (List ℕ)) (given : List Token)
    → StandsBetween q left_old left_before given old → AfterRead q left_old left_after given new result

-- After a game the reading can go on, and one game more is counted. Nothing is claimed after any
-- other result.
abbrev pub GoesOnAfterGame : Reading → Reading → Result (Option CodePlacedMarker) Fault → Type 0
GoesOnAfterGame old new (Ok (Some m)) = IsGoing new.converter × (new.converter.games ≡ old.converter.games + 1) × (old.converter.games < 2 ^ 64)
GoesOnAfterGame old new _ = Unit {0}

-- The second reading has read one game more, and its marker is m: if m was the only marker to come
-- before, none is to come now. The export text of the game was written.
pub record GameWritten (q : Profile) (left_old left_new : Option (List ℕ)) (given : List Token) (m : CodePlacedMarker) (new : Reading) (before after : Option (List ℕ)) : Type 0 where
  pub tokens : List Token
  pub stands : StandsBetween q left_old left_new tokens new
  pub game : Game
  pub one_game : OneGame q given tokens game
  pub matched : (ms : List PlacedMarker) → HasMatched q ms given (model_marker m ∷ []) → HasMatched q ms tokens []
  pub written : Appends before after (game_text q game)

-- Why the second reading stops after `tokens`, if m is the marker of its game. `before` are here
-- the bytes that the sink had taken when all that is due for these tokens was written.
-- - `differs`: the next token shows a difference.
-- - `unwritten`: the next token shows none, but its text could not be written. A prefix of it was
--   written, and not all.
-- - `unread`: reading ends with no token at fault. A byte at place 2^62 is a difference here.
pub data WhySecond (q : Profile) (left_old left_new : Option (List ℕ)) (tokens : List Token) (m : CodePlacedMarker) (before after : Option (List ℕ)) : Fault → Type 0 where
  differs : (t : Token) → ComesNext left_old tokens t → is_changed q (model_marker m) (part_after q tokens) t ≡ true → Appends before after []
      → WhySecond q left_old left_new tokens m before after (record { at = t.at; reason = Changed })
  unwritten : (t : Token) → ComesNext left_old tokens t → is_changed q (model_marker m) (part_after q tokens) t ≡ false
      → AppendsFront before after (gain (with_marker q (model_marker m)) (part_after q tokens) t.kind)
      → WhySecond q left_old left_new tokens m before after (record { at = t.at; reason = WriteFault })
  unread : (f : Fault) → ReadFails left_old left_new tokens f → Appends before after []
      → WhySecond q left_old left_new tokens m before after (as_changed f)

-- The second reading stops with the fault f, after `tokens`. None of them is rejected, finishes a
-- game or shows a difference from the marker m. What is due of the current game was written, where
-- a missing Result counts as m.
pub record SecondFails (q : Profile) (left_old left_new : Option (List ℕ)) (given : List Token) (m : CodePlacedMarker) (f : Fault) (before after : Option (List ℕ)) : Type 0 where
  pub tokens : List Token
  pub passes : (read q tokens).fault ≡ None
  pub no_game : SameGames q given tokens
  pub matched : (ms : List PlacedMarker) → HasMatched q ms given (model_marker m ∷ []) → HasMatched q ms tokens (model_marker m ∷ [])
  pub mid : Option (List ℕ)
  pub wrote : Appends before mid (torn (with_marker q (model_marker m)) (part_after q tokens))
  pub why : WhySecond q left_old left_new tokens m mid after f

-- What `write_game` results in: the game was written, or reading stopped.
abbrev pub AfterWrite : Profile → Option (List ℕ) → Option (List ℕ) → List Token → CodePlacedMarker → Reading → Result Unit Fault → Option (List ℕ) → Option (List ℕ) → Type 0
AfterWrite q left_old left_new given m new (Ok done) before after = GameWritten q left_old left_new given m new before after
AfterWrite q left_old left_new given m new (Err f) before after = SecondFails q left_old left_new given m f before after

-- What `write_game` does to the second reading, if no game is begun. The game has to end with the
-- marker m.
abbrev pub WritesGame : Option (List ℕ) → Option (List ℕ) → Reading → CodePlacedMarker → Reading → Result Unit Fault → Option (List ℕ) → Option (List ℕ) → Type 0
WritesGame left_before left_after old m new result before after =
    (q : Profile) (left_old : Option (List ℕ)) (given : List Token)
    → StandsBetween q left_old left_before given old → AfterWrite q left_old left_after given m new result before after

-- ---- both readings, game by game

-- What both readings have read so far, between two games. `markers` are those of the first reading,
-- and the second has matched each of them. The games of the second are written.
pub record BothSoFar (q : Profile) (first_old first_now second_old second_now : Option (List ℕ)) (first second : Reading) (before after : Option (List ℕ)) : Type 0 where
  pub markers : List PlacedMarker
  pub first_tokens : List Token
  pub first_stands : StandsBetween q first_old first_now first_tokens first
  pub marked : HasMarkers q first_tokens markers
  pub second_tokens : List Token
  pub second_stands : StandsBetween q second_old second_now second_tokens second
  pub matched : HasMatched q markers second_tokens []
  pub written : Appends before after (text_of q (read q second_tokens).progress.games)
