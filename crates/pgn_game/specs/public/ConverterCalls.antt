-- **Definition**: what a contract sees of a converter, and what each call does to it.
-- Letters: p is the profile, c a converter, g a game, f a fault, s a text or its last bytes. u are
-- the bytes used so far, and b is the byte known to be next, if one is. `given` are the tokens read
-- before a call, and `tokens` those read when it ends, or among which it stops. `old` and `new` are
-- the converter before a call and after it, and so is `sink` the sink. `before` and `after` are the
-- bytes that the sink has taken then, if it reports them. Those of a silent converter are not seen:
-- then `KeepsSilence` says that its sink does not change. A game is just finished from the call
-- that finished it to the next call of `feed` or `finish`.
use Rattle.std.specs.Prelude.{◌≡◌, ℕ, ◌+◌, ◌*◌, ◌^◌, ◌<◌, ◌≤◌, ◌↔◌, Bool, true, false, ◌||◌, IsTrue, List, [], ◌∷◌, ◌++◌, length, take, drop, map, sum, codes, option_map, Option, None, Some, Result, Ok, Err}
use Rattle.std.specs.List.{list_any}
use Rattle.std.specs.Io.KnownBytes.{Appends}
use Rattle.chess_rules.specs.declared.position.Parts.{Parts}
use Rattle.pgn_layout.specs.Device.{Device, IsStill, one_more}
use Rattle.pgn_lexer.specs.Tokens.{Token, EndsAt}
use Rattle.pgn_lexer.specs.TokensOf.{tokens_of}
use Rattle.pgn_lexer.specs.Decided.{decided}
use Rattle.pgn_lexer.specs.Standing.{Standing, waiting}
use Rattle.pgn_lexer.specs.Stands.{StandsAfter, Follows, IsDecided, first, still}
use Rattle.pgn_game.specs.declared.marker.Marker.{Marker}
use Rattle.pgn_game.specs.declared.mode.Mode.{Mode}
use Rattle.pgn_game.specs.declared.reason.Reason.{Reason}
use Rattle.pgn_game.specs.declared.reason.Reason.TheVariants.{ReadFault, WriteFault, InputTooLong, Changed}
use Rattle.pgn_game.specs.declared.reason.Fault.{Fault}
use Rattle.pgn_game.specs.declared.stage.Stage.TheVariants.{Between}
use Rattle.pgn_game.specs.declared.converter.Fed.{Fed}
use Rattle.pgn_game.specs.declared.converter.Fed.TheVariants.{All, Game as GameEnd}
use Rattle.pgn_game.specs.games.Markers.{marker_text}
use Rattle.pgn_game.specs.games.Profile.{Profile, counting, counts_as, takes_the_marker, with_missing}
use Rattle.pgn_game.specs.games.Pairs.{Pair, value_of}
use Rattle.pgn_game.specs.export.TagSection.{exported, tag_section}
use Rattle.pgn_game.specs.games.Game.{Game}
use Rattle.pgn_game.specs.games.FaultTable.{position_if_move, result_for}
use Rattle.pgn_game.specs.games.Progress.{Progress, read, due, position_at_fault}
use Rattle.pgn_game.specs.public.MostTried.{MostTried, Raises, TriesUnwritten}
use Rattle.pgn_game.specs.export.Due.{Gains}
use Rattle.pgn_game.specs.games.Levels.{plies_of, last_position}
use Rattle.pgn_game.specs.export.Text.{has_move}
use Rattle.pgn_game.specs.steps.GameState.{GameState, Agrees, IsKnown, silenced, plies_of_finished_games}

-- what can be asked of the game just finished: its pairs, the number of its moves outside
-- variations, the position after these, and its marker
pub record FinishedGame : Type 0 where
  pub pairs : List Pair
  pub plies : ℕ
  pub position : Parts
  pub marker : List ℕ

-- what can be asked of this game once it is just finished
abbrev pub finished_game_of : Game → FinishedGame
finished_game_of g = record { pairs = g.pairs; plies = plies_of g; position = last_position g; marker = g.marker }

-- the lexer, the reader, how many games were finished, the game just finished, whether the input
-- has ended, and the fault
pub record Converter : Type 0 where
  pub lexer : Standing
  pub reading : GameState
  pub games : ℕ
  pub just_finished : Option FinishedGame
  pub is_finished : Bool
  pub fault : Option Fault

-- the profile of a converter for at most so many tag pairs of a game, and variations at most so
-- deep; a missing Result counts as `*`
abbrev pub profile_of : ℕ → ℕ → Mode → Profile
profile_of most depth mode = record { tags = most; depth = depth; mode = mode; missing_result = counts_as (codes "*") }

-- the game just finished, as the reader still holds it
abbrev pub game_in_reader : GameState → FinishedGame
game_in_reader reading = record { pairs = reading.tags.held; plies = reading.text.plies; position = reading.text.levels.current.position; marker = reading.marker }

-- the same, if a game is just finished
abbrev pub game_in_reader_if : Bool → GameState → Option FinishedGame
game_in_reader_if true reading = Some (game_in_reader reading)
game_in_reader_if false reading = None

-- What always holds of a converter. At most 2^62 bytes are used. Before a fault the games and the
-- plies are at most twice as many, but for a few: a byte ends at most two tokens. While a game is
-- just finished, no game is begun, and there is no fault.
pub record IsSound (lexer : Standing) (reading : GameState) (games : ℕ) (has_finished_game is_finished : Bool) (fault : Option Fault) : Type 0 where
  pub count : lexer.count ≤ 2 ^ 62
  pub few : fault ≡ None → games + waiting lexer ≤ 2 * lexer.count + 2
  pub few_plies : fault ≡ None → reading.earlier_plies + reading.text.plies + waiting lexer ≤ 2 * lexer.count + 3
  pub fewer_plies : fault ≡ None → is_finished ≡ false → reading.earlier_plies + reading.text.plies + waiting lexer ≤ 2 * lexer.count + 2
  pub between : IsTrue has_finished_game → reading.stage ≡ Between
  pub no_fault : IsTrue has_finished_game → fault ≡ None

-- What can be asked of the game just finished: the value of a name in its tag section, the number
-- of its moves outside variations, the position after them, and its marker.
abbrev pub finished_game_value : Converter → List ℕ → Option (List ℕ)
finished_game_value c name = elim c.just_finished [ None ↦ None | Some finished ↦ value_of (exported c.reading.profile.mode (result_for c.reading.profile.missing_result finished.marker) finished.pairs) name ]

abbrev pub finished_game_plies : Converter → ℕ
finished_game_plies c = elim c.just_finished [ None ↦ 0 | Some finished ↦ finished.plies ]

abbrev pub finished_game_position : Converter → Option Parts
finished_game_position c = option_map (λ finished. finished.position) c.just_finished

abbrev pub finished_game_marker : Converter → Option (List ℕ)
finished_game_marker c = option_map (λ finished. finished.marker) c.just_finished

-- the tag section of the game just finished; without one nothing
abbrev pub finished_game_section : Converter → List ℕ
finished_game_section c = elim c.just_finished [
  | None ↦ []
  | Some finished ↦ tag_section c.reading.profile.mode (result_for c.reading.profile.missing_result finished.marker) finished.pairs
]

-- the position that a reader reports with a fault, if a move was rejected: its current one
abbrev pub reported_position : GameState → Reason → Option Parts
reported_position reading reason = position_if_move reason reading.text.levels.current.position

-- the position in which a move was rejected, if that is the fault
abbrev pub refused_position : Converter → Option Parts
refused_position c = elim c.fault [ None ↦ None | Some f ↦ reported_position c.reading f.reason ]

-- the game just finished, if there is one, is the last of these games
abbrev pub IsLast : Option FinishedGame → List Game → Type 0
IsLast None games = Unit {0}
IsLast (Some finished) games = (earlier : List Game) × (g : Game) × (games ≡ earlier ++ g ∷ []) × (finished ≡ finished_game_of g)

-- a move is in one of the games
abbrev pub play_moves : List Game → Bool
play_moves games = list_any (λ g. has_move g.items) games

-- a move is in one of the games, or in the part
abbrev pub has_played_move : Progress → Bool
has_played_move b = play_moves b.games || has_move b.part.items

-- The converter has read these tokens by the profile p, and has no fault. None of them is rejected,
-- and the reader agrees with the part that they leave. The counts of games and of plies, the most
-- pairs tried and the game just finished are theirs. Once a move was played, at least one pair was
-- tried.
pub record HasRead (p : Profile) (c : Converter) (given : List Token) : Type 0 where
  pub profile : c.reading.profile ≡ p
  pub no_fault : c.fault ≡ None
  pub passes : (read p given).fault ≡ None
  pub agrees : Agrees c.reading (read p given).progress.part
  pub games : c.games ≡ length (read p given).progress.games
  pub plies : plies_of_finished_games c.reading ≡ sum (map plies_of (read p given).progress.games)
  pub probed : IsTrue (has_played_move (read p given).progress) → 0 < c.reading.most_probes
  pub tried : MostTried c.reading.writing.is_silent p given c.reading.most_probes
  pub just_finished : IsLast c.just_finished (read p given).progress.games

-- The converter stands after the bytes u: the lexer has given these tokens, and the reader has read
-- them. If b is a byte, it is known to be next. If the converter writes, a missing Result counts as
-- a text.
pub record Stands (p : Profile) (c : Converter) (u : List ℕ) (b : Option ℕ) (given : List Token) : Type 0 where
  pub known : c.reading.writing.is_silent ≡ false → IsKnown p
  pub lexer : StandsAfter c.lexer u b given
  pub has_read : HasRead p c given

-- A write failed at `token`, which is at the place `at`. No token up to it is rejected. `text` is
-- what is due for these tokens and was not due for those given. Of `text` the first `count` bytes
-- were written: not all, but at least what is due for the tokens before `token`. So `token` is the
-- first one with text missing.
pub record StopsWriting (p : Profile) (given tokens : List Token) (at : ℕ) (before after : Option (List ℕ)) : Type 0 where
  pub front : List Token
  pub token : Token
  pub rest : List Token
  pub cut : tokens ≡ front ++ token ∷ rest
  pub place : token.at ≡ at
  pub passes : (read p (front ++ token ∷ [])).fault ≡ None
  pub text : List ℕ
  pub due_for : due p (front ++ token ∷ []) ≡ due p given ++ text
  pub count : ℕ
  pub least : length (due p front) ≤ length (due p given) + count
  pub short : count < length text
  pub appended : Appends before after (take count text)

-- How reading stops among these tokens, of which the first were read before.
-- - `refused`: at the first token that is rejected. What is due for those before it was written.
-- - `unwritten`: at the token at which a write failed.
pub data Stops (p : Profile) (given tokens : List Token) (before after : Option (List ℕ)) : Fault → Type 0 where
  refused : (f : Fault) → (read p tokens).fault ≡ Some f → Gains p given tokens before after → Stops p given tokens before after f
  unwritten : (at : ℕ) → StopsWriting p given tokens at before after → Stops p given tokens before after (record { at = at; reason = WriteFault })

-- the bytes u decide these tokens: whatever bytes s come after u, the tokens of the text begin with
-- them
abbrev pub AreNext : List ℕ → List Token → Type 0
AreNext u tokens = (s : List ℕ) → (rest : List Token) × (tokens_of (u ++ s) ≡ tokens ++ rest)

-- the bytes of a text before place 2^62, which are all that a converter uses
abbrev pub within_limit : List ℕ → List ℕ
within_limit s = take (2 ^ 62) s

-- The tokens of the text s begin with these, and its bytes before place 2^62 show this.
-- - `so_far`: some of these bytes, from the first on, decide the tokens.
-- - `at_end`: the text has no bytes but these.
pub data AreShown (s : List ℕ) (tokens : List Token) : Type 0 where
  so_far : (front rest : List ℕ) → s ≡ front ++ rest → length front ≤ 2 ^ 62 → AreNext front tokens → AreShown s tokens
  at_end : length s ≤ 2 ^ 62 → (rest : List Token) → tokens_of s ≡ tokens ++ rest → AreShown s tokens

-- The text s is rejected with the fault f, and its bytes before place 2^62 show this.
pub record IsRefused (p : Profile) (s : List ℕ) (f : Fault) : Type 0 where
  pub tokens : List Token
  pub shown : AreShown s tokens
  pub fault : (read p tokens).fault ≡ Some f

-- The whole piece was used. All tokens that are decided then were read, or if the piece is empty no
-- more than before. None of them finished a game, and what they gain was written.
pub record FedAll (p : Profile) (u : List ℕ) (b : Option ℕ) (given : List Token) (piece : List ℕ) (new : Converter) (before after : Option (List ℕ)) : Type 0 where
  pub tokens : List Token
  pub stands : Stands p new (u ++ piece) (still b piece) tokens
  pub decided : 0 < length piece → tokens ≡ decided (u ++ piece)
  pub empty : length piece ≡ 0 → tokens ≡ given
  pub no_game : (read p tokens).progress.games ≡ (read p given).progress.games
  pub none_just_finished : new.just_finished ≡ None
  pub gains : Gains p given tokens before after

-- The bytes used end with a marker, which finished a game. No token before it finished one. What
-- all of them gain was written. The bytes before place 2^62 decide the marker.
pub record FedGame (p : Profile) (u : List ℕ) (given : List Token) (piece : List ℕ) (used : ℕ) (new : Converter) (before after : Option (List ℕ)) : Type 0 where
  pub tokens : List Token
  pub marker : Token
  pub game : Game
  pub stands : Stands p new (u ++ take used piece) (first (drop used piece)) (tokens ++ marker ∷ [])
  pub at_limit : length (u ++ take used piece) ≡ 2 ^ 62
      → tokens ++ marker ∷ [] ≡ decided (u ++ take used piece)
  pub decided : IsDecided (u ++ take used piece) (drop used piece) (tokens ++ marker ∷ [])
  pub next : AreNext (within_limit (u ++ piece)) (tokens ++ marker ∷ [])
  pub ends : EndsAt marker.kind marker.at (length u + used)
  pub no_game : (read p tokens).progress.games ≡ (read p given).progress.games
  pub one_game : (read p (tokens ++ marker ∷ [])).progress.games ≡ (read p given).progress.games ++ game ∷ []
  pub just_finished : new.just_finished ≡ Some (finished_game_of game)
  pub gains : Gains p given (tokens ++ marker ∷ []) before after

-- one of the tokens that these bytes decide is rejected, or its text could not be written
pub record FedFault (p : Profile) (bytes : List ℕ) (given : List Token) (f : Fault) (before after : Option (List ℕ)) : Type 0 where
  pub tokens : List Token
  pub next : AreNext bytes tokens
  pub stops : Stops p given tokens before after f

-- the games that were finished before reading stopped
abbrev pub games_before : {p : Profile} {given tokens : List Token} {before after : Option (List ℕ)} {f : Fault} → Stops p given tokens before after f → List Game
games_before {p} {given} {tokens} (refused f fault gains) = (read p tokens).progress.games
games_before {p} (unwritten at writing) = (read p writing.front).progress.games

-- the progress before reading stopped
abbrev pub progress_before : {p : Profile} {given tokens : List Token} {before after : Option (List ℕ)} {f : Fault} → Stops p given tokens before after f → Progress
progress_before {p} {given} {tokens} (refused f fault gains) = (read p tokens).progress
progress_before {p} (unwritten at writing) = (read p writing.front).progress

-- The position in which a move was rejected, if reading stopped at a move that was. A failed write
-- rejects none.
abbrev pub position_at_stop : {p : Profile} {given tokens : List Token} {before after : Option (List ℕ)} {f : Fault} → Stops p given tokens before after f → Option Parts
position_at_stop {p} {given} {tokens} (refused f fault gains) = position_at_fault (read p tokens)
position_at_stop (unwritten at writing) = None

-- `most` is the most pairs that were tried for one token, up to the one at which reading stopped
abbrev pub MostAtStop : (silent : Bool) → {p : Profile} {given tokens : List Token} {before after : Option (List ℕ)} {f : Fault} → Stops p given tokens before after f → ℕ → Type 0
MostAtStop silent {p} {given} {tokens} (refused f fault gains) most = MostTried silent p tokens most
MostAtStop silent {p} (unwritten at writing) most =
    (least : ℕ) × MostTried silent p writing.front least
    × Raises (TriesUnwritten silent p (read p writing.front).progress.part writing.token.kind) least most

-- `most` is that number, and at least 1 if a move was played before
pub record ProbesAtStop (silent : Bool) {p : Profile} {given tokens : List Token} {before after : Option (List ℕ)} {f : Fault}
    (stops : Stops p given tokens before after f) (most : ℕ) : Type 0 where
  pub tried : MostAtStop silent stops most
  pub probed : IsTrue (has_played_move (progress_before stops)) → 0 < most

-- A fault, as `FedFault` says. Before it no game was finished. If a move was rejected, the reader
-- holds the position in which it was.
pub record FedToFault (p : Profile) (bytes : List ℕ) (given : List Token) (f : Fault) (reading : GameState) (before after : Option (List ℕ)) : Type 0 where
  pub fed : FedFault p bytes given f before after
  pub no_game : games_before fed.stops ≡ (read p given).progress.games
  pub counts : ProbesAtStop reading.writing.is_silent fed.stops reading.most_probes
  pub position : reported_position reading f.reason ≡ position_at_stop fed.stops

-- How reading stops in a piece that comes after the bytes u.
-- - `at_token`: at a token. `AtToken` says of the bytes before place 2^62 how they decide it.
-- - `too_long`: the piece has the byte at that place. `Before` says of the bytes of the piece
--   before it what was read and written.
pub data StopsIn (u piece : List ℕ) (AtToken : List ℕ → Fault → Type 0) (Before : List ℕ → Type 0) :
    Fault → Type 0 where
  at_token : (f : Fault) → AtToken (within_limit (u ++ piece)) f → StopsIn u piece AtToken Before f
  too_long : (front rest : List ℕ) → piece ≡ front ++ rest → length (u ++ front) ≡ 2 ^ 62
      → 0 < length rest → Before front
      → StopsIn u piece AtToken Before (record { at = 2 ^ 62; reason = InputTooLong })

-- What `feed` results in: the whole piece was used, a game was finished, or reading stopped.
abbrev pub AfterFeed : Profile → List ℕ → Option ℕ → List Token → List ℕ → Converter
    → Result Fed Fault → Option (List ℕ) → Option (List ℕ) → Type 0
AfterFeed p u b given piece new (Ok All) before after = FedAll p u b given piece new before after
AfterFeed p u b given piece new (Ok (GameEnd used)) before after =
    FedGame p u given piece used new before after
AfterFeed p u b given piece new (Err f) before after =
    StopsIn u piece
    (λ bytes fault. FedToFault p bytes given fault new.reading before after)
    (λ front. (now : Converter) × FedAll p u b given front now before after
    × (new.reading ≡ now.reading)) f

-- What `feed` does to a converter that stands after any bytes, if the piece agrees with the byte
-- known to be next.
abbrev pub Feeds : Converter → List ℕ → Converter → Result Fed Fault → Device → Type 0
Feeds old piece new result sink =
    (p : Profile) (u : List ℕ) (b : Option ℕ) (given : List Token)
    → Stands p old u b given → Follows b piece
    → AfterFeed p u b given piece new result sink.before sink.after

-- A finished game is counted. Without one the count stays, and no game is just finished.
abbrev pub KeepsGames : Converter → Converter → Result Fed Fault → Type 0
KeepsGames old new (Ok (GameEnd used)) = (new.games ≡ old.games + 1) × (old.games < 2 ^ 64)
KeepsGames old new (Ok All) = (new.games ≡ old.games) × (new.just_finished ≡ None)
KeepsGames old new (Err f) = (new.games ≡ old.games) × (new.just_finished ≡ None)

-- The whole piece was used, however many games are finished in it: all tokens that are decided then
-- were read, and what they gain was written.
pub record FedWhole (p : Profile) (u : List ℕ) (given : List Token) (piece : List ℕ) (new : Converter)
    (before after : Option (List ℕ)) : Type 0 where
  pub tokens : List Token
  pub stands : Stands p new (u ++ piece) None tokens
  pub decided : tokens ≡ decided (u ++ piece)
  pub gains : Gains p given tokens before after

-- all tokens that the bytes u decide were read, none is rejected, and what they gain was written
pub record ReadsUpTo (p : Profile) (given : List Token) (u : List ℕ)
    (before after : Option (List ℕ)) : Type 0 where
  pub tokens : List Token
  pub decided : tokens ≡ decided u
  pub passes : (read p tokens).fault ≡ None
  pub gains : Gains p given tokens before after

-- what `feed_all` results in: the whole piece was used, or reading stopped
abbrev pub AfterFeedAll : Profile → List ℕ → List Token → List ℕ → Converter
    → Result Unit Fault → Option (List ℕ) → Option (List ℕ) → Type 0
AfterFeedAll p u given piece new (Ok done) before after = FedWhole p u given piece new before after
AfterFeedAll p u given piece new (Err f) before after =
    StopsIn u piece (λ bytes fault. FedFault p bytes given fault before after)
    (λ front. ReadsUpTo p given (u ++ front) before after) f

-- What `feed_all` does to a converter that has read all that the bytes u decide.
abbrev pub FeedsAll : Converter → List ℕ → Converter → Result Unit Fault → Device → Type 0
FeedsAll old piece new result sink =
    (p : Profile) (u : List ℕ) (given : List Token)
    → Stands p old u None given → given ≡ decided u
    → AfterFeedAll p u given piece new result sink.before sink.after

-- how much of the piece was used
abbrev pub used_of : Fed → List ℕ → ℕ
used_of All piece = length piece
used_of (GameEnd used) piece = used

-- a call that finishes a game uses a byte, or fewer tokens are waiting after it
abbrev pub Advances : Standing → Standing → Fed → Type 0
Advances old new All = Unit {0}
Advances old new (GameEnd used) = waiting new < 2 * used + waiting old

-- The text u has ended: all its tokens were read, and what they add to what was due was written. A
-- game is just finished exactly if the call finished one.
pub record Finishes (p : Profile) (u : List ℕ) (given : List Token) (new : Converter) (finished_game : Bool) (before after : Option (List ℕ)) : Type 0 where
  pub has_read : HasRead p new (tokens_of u)
  pub game : IsTrue finished_game ↔ (length (read p given).progress.games < length (read p (tokens_of u)).progress.games)
  pub just_finished : finished_game ≡ true → (finished : FinishedGame) × (new.just_finished ≡ Some finished)
  pub none_just_finished : finished_game ≡ false → new.just_finished ≡ None
  pub gains : Gains p given (tokens_of u) before after

-- The text u has ended, but one of its tokens is rejected, or a write failed. Before that the end
-- finished no game, and the games are counted. If a move was rejected, the reader holds the
-- position in which it was.
pub record FinishesToFault (p : Profile) (u : List ℕ) (given : List Token) (new : Converter) (f : Fault) (before after : Option (List ℕ)) : Type 0 where
  pub stops : Stops p given (tokens_of u) before after f
  pub no_game : games_before stops ≡ (read p given).progress.games
  pub games : new.games ≡ length (games_before stops)
  pub counts : ProbesAtStop new.reading.writing.is_silent stops new.reading.most_probes
  pub position : reported_position new.reading f.reason ≡ position_at_stop stops

-- What `finish` results in: the text has ended, or reading stopped.
abbrev pub AfterFinish : Profile → List ℕ → List Token → Converter → Result Bool Fault → Option (List ℕ) → Option (List ℕ) → Type 0
AfterFinish p u given new (Ok finished_game) before after = Finishes p u given new finished_game before after
AfterFinish p u given new (Err f) before after = FinishesToFault p u given new f before after

-- What `finish` does to a converter that stands after the bytes u, which are then the whole text.
abbrev pub Ends : Converter → Converter → Result Bool Fault → Device → Type 0
Ends old new result sink =
    (p : Profile) (u : List ℕ) (b : Option ℕ) (given : List Token)
    → Stands p old u b given → AfterFinish p u given new result sink.before sink.after

-- the same converter, but from now on a missing Result counts as this marker
abbrev pub counting_missing_as : Marker → Converter → Converter
counting_missing_as marker c =
    record c { reading = record c.reading { profile = counting c.reading.profile (marker_text marker) } }

-- What `count_missing_result_as` does to a converter that has read no token yet: it stands after
-- the same bytes as before, by the profile in which a missing Result counts as this marker.
abbrev pub CountsMissingAs : Marker → Converter → Converter → Type 0
CountsMissingAs marker old new =
    (p : Profile) (u : List ℕ) (b : Option ℕ)
    → Stands p old u b [] → Stands (counting p (marker_text marker)) new u b []

-- the same converter, but it writes nothing from now on
abbrev pub writing_nothing : Converter → Converter
writing_nothing c = record c { reading = silenced c.reading }

-- What `write_nothing` does to a converter that has read no token yet: it stands after the same
-- bytes as before.
abbrev pub StillStands : Converter → Converter → Type 0
StillStands old new =
    (p : Profile) (u : List ℕ) (b : Option ℕ)
    → Stands p old u b [] → Stands p new u b []

-- the same converter, but from now on a missing Result takes the marker, and nothing is written
abbrev pub reading_by_marker : Converter → Converter
reading_by_marker c =
    record c { reading = silenced (record c.reading { profile = with_missing c.reading.profile takes_the_marker }) }

-- What `take_marker_for_missing_result` does to a converter that has read no token yet: it stands
-- after the same bytes as before, by the profile in which a missing Result takes the marker.
abbrev pub ReadsByMarker : Converter → Converter → Type 0
ReadsByMarker old new =
    (p : Profile) (u : List ℕ) (b : Option ℕ)
    → Stands p old u b [] → Stands (with_missing p takes_the_marker) new u b []

-- the fault of a result, if it has one
abbrev pub fault_of : {A : Type 0} → Result A Fault → Option Fault
fault_of (Ok x) = None
fault_of (Err f) = Some f

-- The fault that a call returns is kept. After any other result there is none.
abbrev pub KeepsFault : {A : Type 0} → Converter → Result A Fault → Type 0
KeepsFault new result = new.fault ≡ fault_of result

-- After a fault each call returns it again, and neither the converter nor the sink changes.
abbrev pub Again : {A S : Type 0} → Converter → Converter → Result A Fault → S → S → Type 0
Again old new result out_old out_new = (f : Fault) → old.fault ≡ Some f → (result ≡ Err f) × (new ≡ old) × (out_new ≡ out_old)

-- no write failed
abbrev pub NoWriteFails : {A : Type 0} → Result A Fault → Type 0
NoWriteFails (Ok x) = Unit {0}
NoWriteFails (Err f) = f.reason ≡ WriteFault → ⊥

-- If the reason is `WriteFault`, the sink counts one failure more, and for any other reason none.
-- No call of a converter returns `ReadFault` or `Changed`: those over a whole input do.
abbrev pub CountsReason : Reason → ℕ → ℕ → Type 0
CountsReason WriteFault old new = new ≡ one_more old
CountsReason ReadFault old new = ⊥
CountsReason Changed old new = ⊥
CountsReason _ old new = new ≡ old

-- the same for a result: without a fault the count of failures stays
abbrev pub CountsFault : {A : Type 0} → Result A Fault → Device → Type 0
CountsFault (Ok x) sink = IsStill sink
CountsFault (Err f) sink = CountsReason f.reason sink.failures sink.failures_after
