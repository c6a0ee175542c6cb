-- **Bookkeeping**: what is asked of a converter, and what was read of a piece with any number of
-- games.
-- Letters: p is the profile, u the bytes used so far, c a converter, f a fault, g a game. `given`
-- are the tokens given before a call, `tokens` those read when it ends. `sink` is the sink before
-- the call and after it, `before` and `after` are the bytes that it has taken, if it reports them.
use Rattle.std.specs.Prelude.{◌≡◌, ℕ, ◌+◌, ◌<◌, ◌≤◌, ◌^◌, false, List, [], ◌∷◌, ◌++◌, length, take, drop, Option, None, Result, OnOk}
use Rattle.std.specs.Io.KnownBytes.{Appends}
use Rattle.pgn_layout.specs.Device.{Device}
use Rattle.pgn_lexer.specs.Tokens.{Token}
use Rattle.pgn_lexer.specs.Decided.{decided}
use Rattle.pgn_lexer.specs.Stands.{IsDecided, first}
use Rattle.pgn_game.specs.declared.marker.PlacedMarker.{PlacedMarker}
use Rattle.pgn_game.specs.declared.reason.Fault.{Fault}
use Rattle.pgn_game.specs.games.Profile.{Profile, takes_the_marker, with_missing}
use Rattle.pgn_game.specs.games.Game.{Game, Part}
use Rattle.pgn_game.specs.export.Text.{text_of, torn}
use Rattle.pgn_game.specs.games.Progress.{read}
use Rattle.pgn_game.specs.export.Due.{Gains}
use Rattle.pgn_game.specs.steps.GameState.{GameState, with_announced}
use Rattle.pgn_game.specs.public.ConverterCalls.{Converter, CountsFault, KeepsFault, Stands, Stops, games_before, position_at_stop, reported_position, ProbesAtStop}

-- ---- what was read and written

-- the games read with more tokens: none more, or one
abbrev pub SameGames : Profile → List Token → List Token → Type 0
SameGames p given tokens = (read p tokens).progress.games ≡ (read p given).progress.games

abbrev pub OneGame : Profile → List Token → List Token → Game → Type 0
OneGame p given tokens g = (read p tokens).progress.games ≡ (read p given).progress.games ++ g ∷ []

-- the part before the next token
abbrev pub part_after : Profile → List Token → Part
part_after p given = (read p given).progress.part

-- What is due for tokens, where a missing Result of the current game is written as in the profile
-- w.
abbrev pub due_as : Profile → Profile → List Token → List ℕ
due_as w p tokens = text_of p (read p tokens).progress.games ++ torn w (part_after p tokens)

-- What was appended is that for `tokens` without that for `given`.
pub record GainsAs (w p : Profile) (given tokens : List Token) (before after : Option (List ℕ)) : Type 0 where
  pub text : List ℕ
  pub due_for : due_as w p tokens ≡ due_as w p given ++ text
  pub appended : Appends before after text

-- ---- what is asked of a converter

-- It has met no fault, and the end of the input was not read.
pub record IsGoing (c : Converter) : Type 0 where
  pub no_fault : c.fault ≡ None
  pub not_finished : c.is_finished ≡ false

-- Before a token also no game is just finished.
pub record IsBeforeToken (c : Converter) : Type 0 where
  pub no_fault : c.fault ≡ None
  pub not_finished : c.is_finished ≡ false
  pub none_just_finished : c.just_finished ≡ None

-- The piece that comes next is not empty, and ends before place 2^62.
pub record IsBeforePiece (c : Converter) (piece : List ℕ) : Type 0 where
  pub before : IsBeforeToken c
  pub some : 0 < length piece
  pub short : c.lexer.count + length piece ≤ 2 ^ 62

-- ---- however many games

-- what was read of a piece up to a place, however many games were finished in it
pub record AllSoFar (p : Profile) (u : List ℕ) (given : List Token) (piece : List ℕ) (at : ℕ)
    (now : Converter) (before after : Option (List ℕ)) : Type 0 where
  pub tokens : List Token
  pub stands : Stands p now (u ++ take at piece) (first (drop at piece)) tokens
  pub at_limit : length (u ++ take at piece) ≡ 2 ^ 62 → tokens ≡ decided (u ++ take at piece)
  pub decided : IsDecided (u ++ take at piece) (drop at piece) tokens
  pub gains : Gains p given tokens before after

abbrev pub FeedsAllSoFar : Converter → List ℕ → ℕ → Converter → Device → Type 0
FeedsAllSoFar old piece at now sink =
    (p : Profile) (u : List ℕ) (given : List Token)
    → Stands p old u None given → given ≡ decided u
    → AllSoFar p u given piece at now sink.before sink.after

-- How `feed_all` leaves the rest of the converter, and what it counts.
pub record GoesToEndOfPiece (old : Converter) (piece : List ℕ) (new : Converter) (result : Result Unit Fault) (sink : Device) : Type 0 where
  pub count : OnOk result (new.lexer.count ≡ old.lexer.count + length piece)
  pub short : new.lexer.count ≤ 2 ^ 62
  pub not_finished : new.is_finished ≡ false
  pub fault : KeepsFault new result
  pub counted : CountsFault result sink

-- A token of these is rejected, or a write failed. Before it no game was finished, and the reader
-- holds the position in which a move was rejected.
pub record FaultAtEnd (p : Profile) (given tokens : List Token) (f : Fault) (reading : GameState) (before after : Option (List ℕ)) : Type 0 where
  pub stops : Stops p given tokens before after f
  pub no_game : games_before stops ≡ (read p given).progress.games
  pub counts : ProbesAtStop reading.writing.is_silent stops reading.most_probes
  pub position : reported_position reading f.reason ≡ position_at_stop stops

-- ---- an input that is read twice

-- the same converter, but a missing Result takes the marker from now on
abbrev pub letting_missing_result_take_marker : Converter → Converter
letting_missing_result_take_marker c =
    record c { reading = record c.reading { profile = with_missing c.reading.profile takes_the_marker } }

-- the same converter, but the next game's marker is announced
abbrev pub announcing : PlacedMarker → Converter → Converter
announcing marker c = record c { reading = with_announced marker c.reading }
