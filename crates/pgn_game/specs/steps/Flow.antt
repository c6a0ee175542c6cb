-- **Bookkeeping**: where reading stands in a text, and how it stops. One relation for a piece and
-- for the end of the input, for one token and for any number of them.
-- Letters: l is a lexer, c a converter, s the bytes known of a text, t a token, f a fault. `sink`
-- is the sink before a call and after it, `after` are the bytes that it has taken then, if it
-- reports them.
use Rattle.std.specs.Prelude.{◌≡◌, ℕ, ◌+◌, ◌-◌, ◌*◌, ◌^◌, ◌<◌, ◌≤◌, ◌⊎◌, ◌&&◌, Bool, true, false, not, List, [], ◌∷◌, ◌++◌, length, take, drop, Option, None, Some, Result, Ok, Err, IfOk}
use Rattle.pgn_layout.specs.Device.{Device}
use Rattle.pgn_lexer.specs.Tokens.{Token, EndsAt}
use Rattle.pgn_lexer.specs.TokensOf.{tokens_of}
use Rattle.pgn_lexer.specs.Standing.{Standing, waiting}
use Rattle.pgn_lexer.specs.Stands.{StandsAfter, HasLeft, IsDecided, first}
use Rattle.pgn_game.specs.declared.reason.Fault.{Fault}
use Rattle.pgn_game.specs.declared.reason.Reason.{Reason}
use Rattle.pgn_game.specs.declared.reason.Reason.TheVariants.{InputTooLong, ResultDiffers, WriteFault}
use Rattle.pgn_game.specs.declared.marker.PlacedMarker.{PlacedMarker}
use Rattle.pgn_game.specs.declared.converter.Fed.{Fed}
use Rattle.pgn_game.specs.declared.converter.Fed.TheVariants.{All, Game as GameEnd}
use Rattle.pgn_game.specs.declared.stage.Stage.TheVariants.{Between}
use Rattle.pgn_game.specs.games.Markers.{marker_text}
use Rattle.pgn_game.specs.games.Profile.{Profile, counting, takes_the_marker}
use Rattle.pgn_game.specs.games.Game.{Game}
use Rattle.pgn_game.specs.games.FaultTable.{is_end, marker_of, refusal}
use Rattle.pgn_game.specs.games.Progress.{next, read, whole}
use Rattle.pgn_game.specs.steps.GameState.{IsKnown, IsStopped, GameState, is_unexpected}
use Rattle.pgn_game.specs.steps.ConverterSteps.{GainsAs, IsBeforeToken, part_after}
use Rattle.pgn_game.specs.public.ConverterCalls.{Advances, AreNext, Converter, CountsFault, FinishedGame, HasRead, KeepsFault, KeepsGames, finished_game_of, game_in_reader, used_of, within_limit}

-- ---- a text, and where reading stands in it

-- What is known of a text: these bytes, from the first on, or that these are all of it.
pub data Known : Type 0 where
  so_far : List ℕ → Known
  ended : List ℕ → Known

-- The token comes next in the text behind these, whatever comes after the bytes known.
abbrev pub IsNextIn : Known → List Token → Token → Type 0
IsNextIn (so_far s) tokens t = AreNext s (tokens ++ t ∷ [])
IsNextIn (ended s) tokens t = (rest : List Token) × (tokens_of s ≡ tokens ++ t ∷ rest)

-- What is still to be read of it: the bytes behind those used, or the end.
abbrev pub IsAhead : Known → ℕ → Option (List ℕ) → Type 0
IsAhead (so_far s) used (Some piece) = drop used s ≡ piece
IsAhead (ended s) used None = Unit {0}
IsAhead _ used ahead = ⊥

-- Of the tokens of the whole text these were given. The lexer gives the rest, unless the end was
-- read.
abbrev pub HasLeftUntil : Bool → Standing → List ℕ → List Token → Type 0
HasLeftUntil false l s tokens = HasLeft l s tokens
HasLeftUntil true l s tokens = tokens ≡ tokens_of s

-- The lexer has given these tokens of the text, and whether the end is one of them.
abbrev pub HasGivenOf : Known → Standing → Bool → List Token → Type 0
HasGivenOf (so_far s) l is_over tokens =
    (l.count ≤ length s) × StandsAfter l (take l.count s) (first (drop l.count s)) tokens
HasGivenOf (ended s) l is_over tokens = HasLeftUntil is_over l s tokens

-- The lexer has given these tokens of a text that begins with the bytes s. The bytes used decide
-- them.
pub record StandsInText (s : List ℕ) (l : Standing) (tokens : List Token) : Type 0 where
  pub inside : l.count ≤ length s
  pub stands : StandsAfter l (take l.count s) (first (drop l.count s)) tokens
  pub decided : IsDecided (take l.count s) (drop l.count s) tokens

-- Where a call began: the profile, the bytes used then, the tokens read then, what the sink had
-- taken, and the marker that was announced for the next game, if one was.
pub record Start : Type 0 where
  pub profile : Profile
  pub count : ℕ
  pub given : List Token
  pub before : Option (List ℕ)
  pub expected : Option PlacedMarker

-- the profile by which text is written then: a missing Result counts as the announced marker
abbrev pub profile_written : Profile → Option PlacedMarker → Profile
profile_written p None = p
profile_written p (Some m) = counting p (marker_text m.marker)

-- A reader that writes knows what a missing Result is: by the profile, or the marker was announced.
abbrev pub KnowsResult : Option PlacedMarker → Profile → GameState → Type 0
KnowsResult None p reading = IsKnown p
KnowsResult (Some m) p reading = (p.missing_result ≡ takes_the_marker) × (reading.writing.announced ≡ Some m)

-- The tokens are those that the bytes used decide, or nothing was read since.
abbrev pub AreAllDecided : Start → Known → ℕ → List Token → Type 0
AreAllDecided start (so_far s) used tokens =
    IsDecided (take used s) (drop used s) tokens ⊎ ((used ≡ start.count) × (tokens ≡ start.given))
AreAllDecided start (ended s) used tokens = Unit {0}

-- The converter has read these tokens: those read at the start, and more. None is rejected. If it
-- writes, then what they gain since the start was written.
pub record Since (start : Start) (c : Converter) (tokens : List Token) (after : Option (List ℕ)) : Type 0 where
  pub more : List Token
  pub extends : tokens ≡ start.given ++ more
  pub has_read : HasRead start.profile c tokens
  pub known : c.reading.writing.is_silent ≡ false → KnowsResult start.expected start.profile c.reading
  pub gains : c.reading.writing.is_silent ≡ false → GainsAs (profile_written start.profile start.expected) start.profile start.given tokens start.before after

-- the last of them is the end
abbrev pub EndsText : List Token → Type 0
EndsText tokens = (front : List Token) × (end : Token) × (tokens ≡ front ++ end ∷ []) × (is_end end.kind ≡ true)

-- What was read since the start, and the lexer has given these tokens of the text. After the end no
-- game is begun.
pub record At (start : Start) (text : Known) (c : Converter) (tokens : List Token) (after : Option (List ℕ)) : Type 0 where
  pub since : Since start c tokens after
  pub lexer : HasGivenOf text c.lexer c.is_finished tokens
  pub decided : AreAllDecided start text c.lexer.count tokens
  pub over : c.is_finished ≡ true → (c.reading.stage ≡ Between) × EndsText tokens

-- where the last byte of the token is, if it came in a piece
abbrev pub EndsThere : Known → Token → ℕ → Type 0
EndsThere (so_far s) t used = EndsAt t.kind t.at used
EndsThere (ended s) t used = Unit {0}

-- The last of the tokens finished a game, which is the one just finished. The reader still has its
-- marker and the place of that. If one was announced to a converter that writes, it is that one.
pub record Closes (start : Start) (text : Known) (c : Converter) (tokens : List Token) : Type 0 where
  pub more : List Token
  pub marker : Token
  pub cut : tokens ≡ (start.given ++ more) ++ marker ∷ []
  pub ends : EndsThere text marker c.lexer.count
  pub game : Game
  pub one_game : (read start.profile tokens).progress.games
      ≡ (read start.profile (start.given ++ more)).progress.games ++ game ∷ []
  pub just_finished : c.just_finished ≡ Some (finished_game_of game)
  pub free : refusal start.profile (part_after start.profile (start.given ++ more)) marker.kind ≡ None
  pub leads : next (part_after start.profile (start.given ++ more)) marker.kind ≡ whole game
  pub held : c.reading.marker ≡ game.marker
  pub place : c.reading.marker_at ≡ marker.at
  pub expected : c.reading.writing.is_silent ≡ false → is_unexpected start.expected game.marker marker.at ≡ false

-- The token is another marker than was announced. Nothing was written of it.
pub record IsAnother (expected : Option PlacedMarker) (t : Token) (reason : Reason) (before after : Option (List ℕ)) : Type 0 where
  pub text : List ℕ
  pub is : marker_of t.kind ≡ Some text
  pub other : is_unexpected expected text t.at ≡ true
  pub why : reason ≡ ResultDiffers
  pub unwritten : after ≡ before

-- A token was not taken, which comes after those that `now` has read: it is rejected, a write
-- failed, or another marker was announced. If a write failed at a marker, that was announced.
pub record StopsAt (start : Start) (text : Known) (f : Fault) (new : Converter) (after : Option (List ℕ)) : Type 0 where
  pub now : Converter
  pub tokens : List Token
  pub mid : Option (List ℕ)
  pub since : Since start now tokens mid
  pub token : Token
  pub next : IsNextIn text tokens token
  pub place : f.at ≡ token.at
  pub stopped : IsStopped now.reading (part_after start.profile tokens) token.kind new.reading mid after f.reason ⊎ IsAnother start.expected token f.reason mid after
  pub expected : now.reading.writing.is_silent ≡ false → f.reason ≡ WriteFault
      → (text : List ℕ) → marker_of token.kind ≡ Some text → is_unexpected start.expected text token.at ≡ false
  pub games : new.games ≡ now.games
  pub profile : new.reading.profile ≡ now.reading.profile
  pub writing : new.reading.writing ≡ now.reading.writing
  pub probes : now.reading.most_probes ≤ new.reading.most_probes

-- how a call leaves it: whether the last token finished a game, or how it stopped
abbrev pub Reached : Start → Known → Converter → Result Bool Fault → Option (List ℕ) → Type 0
Reached start text new (Ok true) after =
    (tokens : List Token) × At start text new tokens after × Closes start text new tokens
Reached start text new (Ok false) after = (tokens : List Token) × At start text new tokens after
Reached start text new (Err f) after = StopsAt start text f new after

-- What every call does that reads on: from wherever it stood since any start, to where it stands.
abbrev pub ReadsOn : Converter → Option (List ℕ) → Converter → Result Bool Fault → Device → Type 0
ReadsOn old ahead new result sink =
    (start : Start) (text : Known) (tokens : List Token)
    → IsAhead text old.lexer.count ahead → At start text old tokens sink.before
    → Reached start text new result sink.after

-- ---- a token that was taken

-- what the converter says of a token at this place: whether it finished the game
abbrev pub taken_at : ℕ → Result Bool Reason → Result Bool Fault
taken_at at (Ok finished) = Ok finished
taken_at at (Err reason) = Err (record { at = at; reason = reason })

-- a game that is finished is counted, and a fault is kept
abbrev pub settled : ℕ → Result Bool Reason → Converter → Converter
settled at (Ok true) c =
    record c { games = c.games + 1; just_finished = Some (game_in_reader c.reading) }
settled at (Ok false) c = c
settled at (Err reason) c = record c { fault = Some (record { at = at; reason = reason }) }

-- The reader has taken the token. If it finished a game, counts have room for that.
pub record HasTakenToken (c : Converter) (taken : Result Bool Reason) : Type 0 where
  pub before : IsBeforeToken c
  pub few : c.games + 1 + waiting c.lexer ≤ 2 * c.lexer.count + 2
  pub between : taken ≡ Ok true → c.reading.stage ≡ Between

-- ---- in a piece

-- how many games a call finished
abbrev pub games_in : Result Bool Fault → ℕ
games_in (Ok true) = 1
games_in _ = 0

-- A call that finishes a game uses a byte, or fewer tokens are waiting after it. One that finishes
-- none uses a byte for each two tokens more that are waiting.
abbrev pub Sooner : Standing → Standing → ℕ → Result Bool Fault → Type 0
Sooner old new used (Ok true) = waiting new < 2 * used + waiting old
Sooner old new used (Ok false) = waiting new ≤ 2 * used + waiting old
Sooner old new used (Err f) = Unit {0}

-- without a game that the call finished, none is just finished
abbrev pub FinishesNoneElse : Converter → Result Bool Fault → Type 0
FinishesNoneElse new (Ok true) = Unit {0}
FinishesNoneElse new _ = new.just_finished ≡ None

-- What a call does to the rest of a converter that reads on in `size` bytes.
pub record GoesThrough (old : Converter) (size : ℕ) (new : Converter) (used : ℕ) (result : Result Bool Fault)
    (sink : Device) : Type 0 where
  pub within : used ≤ size
  pub count : new.lexer.count ≡ old.lexer.count + used
  pub sooner : Sooner old.lexer new.lexer used result
  pub games : new.games ≡ old.games + games_in result
  pub none_else : FinishesNoneElse new result
  pub not_finished : new.is_finished ≡ false
  pub fault : KeepsFault new result
  pub probes : old.reading.most_probes ≤ new.reading.most_probes
  pub counted : CountsFault result sink

-- What a call does that reads on in a piece.
pub record ReadsIn (old : Converter) (piece : List ℕ) (new : Converter) (used : ℕ) (result : Result Bool Fault)
    (sink : Device) : Type 0 where
  pub reads : ReadsOn old (Some piece) new result sink
  pub goes : GoesThrough old (length piece) new used result sink

-- Without a fault a step brings the end of the piece nearer: it uses a byte, or a token was
-- waiting.
abbrev pub IsNearer : Standing → Standing → ℕ → Result Bool Fault → Type 0
IsNearer old new used (Ok finished) = waiting new + 1 ≤ 3 * used + waiting old
IsNearer old new used (Err f) = Unit {0}

-- What a step in a piece does.
pub record StepsIn (old : Converter) (piece : List ℕ) (new : Converter) (used : ℕ) (result : Result Bool Fault)
    (sink : Device) : Type 0 where
  pub reads : ReadsIn old piece new used result sink
  pub nearer : IsNearer old.lexer new.lexer used result

-- ---- a piece of any length

-- whether a game was finished
abbrev pub finished_game : Fed → Bool
finished_game All = false
finished_game (GameEnd used) = true

-- The text reaches past place 2^62: its bytes before that were all read. `now` has read them, and
-- `new` still has its reader.
pub record PassesLimit (start : Start) (s : List ℕ) (f : Fault) (new : Converter) (after : Option (List ℕ)) : Type 0 where
  pub fault : f ≡ record { at = 2 ^ 62; reason = InputTooLong }
  pub long : 2 ^ 62 < length s
  pub now : Converter
  pub tokens : List Token
  pub reached : At start (so_far (within_limit s)) now tokens after
  pub count : now.lexer.count ≡ 2 ^ 62
  pub none_just_finished : now.just_finished ≡ None
  pub games : new.games ≡ now.games
  pub same : new.reading ≡ now.reading

-- How a call leaves it: only the bytes before place 2^62 are read.
abbrev pub ReachedWithin : Start → List ℕ → Converter → Result Fed Fault → Option (List ℕ) → Type 0
ReachedWithin start s new (Ok fed) after = Reached start (so_far (within_limit s)) new (Ok (finished_game fed)) after
ReachedWithin start s new (Err f) after = StopsAt start (so_far (within_limit s)) f new after ⊎ PassesLimit start s f new after

-- Without a byte before place 2^62 a call reads nothing.
abbrev pub ReadsNothing : Converter → List ℕ → Converter → Result Fed Fault → Type 0
ReadsNothing old [] new result = (result ≡ Ok All) × (new ≡ record old { just_finished = None })
ReadsNothing old (x ∷ rest) new result =
    (result ≡ Err (record { at = 2 ^ 62; reason = InputTooLong })) × (new.reading ≡ old.reading)

-- How far a call gets in a piece of any length, and what it counts.
pub record GoesInPiece (old : Converter) (piece : List ℕ) (new : Converter) (result : Result Fed Fault) (sink : Device) : Type 0 where
  pub used : IfOk result (λ fed. used_of fed piece ≤ length piece)
  pub count : IfOk result (λ fed. new.lexer.count ≡ old.lexer.count + used_of fed piece)
  pub grows : old.lexer.count ≤ new.lexer.count
  pub within : new.lexer.count ≤ old.lexer.count + length piece
  pub short : new.lexer.count ≤ 2 ^ 62
  pub advances : IfOk result (λ fed. Advances old.lexer new.lexer fed)
  pub not_finished : new.is_finished ≡ false
  pub fault : KeepsFault new result
  pub games : KeepsGames old new result
  pub probes : old.reading.most_probes ≤ new.reading.most_probes
  pub counted : CountsFault result sink

-- What `feed` does with a piece of any length.
pub record FeedsPiece (old : Converter) (piece : List ℕ) (new : Converter) (result : Result Fed Fault) (sink : Device) : Type 0 where
  pub reads : (start : Start) (s : List ℕ) (tokens : List Token) → drop old.lexer.count s ≡ piece
      → At start (so_far (within_limit s)) old tokens sink.before → ReachedWithin start s new result sink.after
  pub none : take (2 ^ 62 - old.lexer.count) piece ≡ [] → ReadsNothing old piece new result × (sink.after ≡ sink.before)
  pub goes : GoesInPiece old piece new result sink

-- ---- behind the last piece

-- how many steps are left at most: one for each token that is waiting, and one for the end
abbrev pub steps_until : Bool → ℕ → ℕ
steps_until true tokens = tokens
steps_until false tokens = tokens + 1

abbrev pub steps_left : Converter → ℕ
steps_left c = steps_until c.is_finished (waiting c.lexer)

-- without a fault a step lowers that number
abbrev pub IsNearerEnd : Converter → Converter → Result Bool Fault → Type 0
IsNearerEnd old new (Ok finished) = steps_left new < steps_left old
IsNearerEnd old new (Err f) = Unit {0}

-- A game just finished stays so while no game is begun.
abbrev pub KeepsFinished : Converter → Converter → Result Bool Fault → Type 0
KeepsFinished old new (Ok true) = new.just_finished ≡ Some (game_in_reader new.reading)
KeepsFinished old new (Ok false) =
    (old.just_finished ≡ None → new.just_finished ≡ None)
    × (new.reading.stage ≡ Between → (old.reading.stage ≡ Between) × (new.just_finished ≡ old.just_finished))
KeepsFinished old new (Err f) = new.just_finished ≡ None

-- neither a marker nor a fault ends the input
abbrev pub IsUnfinished : Converter → Result Bool Fault → Type 0
IsUnfinished new (Ok true) = new.is_finished ≡ false
IsUnfinished new (Ok false) = Unit {0}
IsUnfinished new (Err f) = new.is_finished ≡ false

-- What a call does to the rest of a converter behind the last piece.
pub record GoesAtEnd (old new : Converter) (result : Result Bool Fault) (sink : Device) : Type 0 where
  pub count : new.lexer.count ≡ old.lexer.count
  pub nearer : IsNearerEnd old new result
  pub games : new.games ≡ old.games + games_in result
  pub kept : KeepsFinished old new result
  pub unfinished : IsUnfinished new result
  pub fault : KeepsFault new result
  pub probes : old.reading.most_probes ≤ new.reading.most_probes
  pub counted : CountsFault result sink

-- Behind the last piece a game ends a call only if that is asked for (`true`).
abbrev pub read_on : Bool → Result Bool Fault → Result Bool Fault
read_on to_game (Ok finished) = Ok (to_game && finished)
read_on to_game (Err f) = Err f

-- A call up to a game (`true`) finishes one at most. In a call that no game ends, a game that it
-- finished is just finished, if none is begun behind it.
abbrev pub EndsGames : Bool → Converter → Converter → Result Bool Fault → Type 0
EndsGames true old new result = new.games ≡ old.games + games_in result
EndsGames false old new (Ok true) =
    (old.games < new.games) × (new.reading.stage ≡ Between → (finished : FinishedGame) × (new.just_finished ≡ Some finished))
EndsGames false old new (Ok false) = (new.games ≡ old.games) × (new.just_finished ≡ None)
EndsGames false old new (Err f) = new.just_finished ≡ None

-- the input has ended, unless a game ended the call
abbrev pub is_over : Bool → Result Bool Fault → Bool
is_over to_game (Ok finished) = not (to_game && finished)
is_over to_game (Err f) = false

-- What `finish_left` does behind the last piece, of a converter that has met no fault.
pub record FinishesLeft (to_game : Bool) (old new : Converter) (result : Result Bool Fault) (sink : Device) : Type 0 where
  pub reads : ReadsOn old None new (read_on to_game result) sink
  pub games : EndsGames to_game old new result
  pub finished : new.is_finished ≡ is_over to_game result
  pub count : new.lexer.count ≡ old.lexer.count
  pub fault : KeepsFault new result
  pub probes : old.reading.most_probes ≤ new.reading.most_probes
  pub counted : CountsFault result sink
