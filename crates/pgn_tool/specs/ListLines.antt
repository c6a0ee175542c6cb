-- **Definition**: the lines that a list has, and what writing them results in.
-- Letters: p is a profile, g a game, gs are games, u the bytes read so far, ts tokens, s is a text,
-- c a converter, f a fault. `before` and `after` are the bytes that the sink has taken, before a
-- call and after it; `left_old` and `left_new` are those that the source has left.
use Rattle.std.specs.Prelude.{◌≡◌, ℕ, ◌+◌, ◌^◌, ◌<◌, ◌≤◌, List, [], ◌∷◌, ◌++◌, length, take, codes, decimal, unwrap_or, Option, None, Some, Result, Ok, Err, IfSome}
use Rattle.std.specs.Io.KnownBytes.{Appends, Consumes}
use Rattle.chess_text.specs.Fen.{fen_text}
use Rattle.pgn_layout.specs.Device.{one_more}
use Rattle.pgn_lexer.specs.Tokens.{Token}
use Rattle.pgn_lexer.specs.TokensOf.{tokens_of}
use Rattle.pgn_lexer.specs.Decided.{decided}
use Rattle.pgn_game.specs.declared.mode.Mode.TheVariants.{Full}
use Rattle.pgn_game.specs.declared.reason.Reason.{Reason}
use Rattle.pgn_game.specs.declared.reason.Reason.TheVariants.{ReadFault, WriteFault, InputTooLong}
use Rattle.pgn_game.specs.declared.reason.Fault.{Fault}
use Rattle.pgn_game.specs.games.Profile.{Profile}
use Rattle.pgn_game.specs.games.FaultTable.{result_for}
use Rattle.pgn_game.specs.games.Pairs.{value_of}
use Rattle.pgn_game.specs.export.TagSection.{exported}
use Rattle.pgn_game.specs.games.Game.{Game}
use Rattle.pgn_game.specs.games.Progress.{read}
use Rattle.pgn_game.specs.public.ConverterCalls.{Converter, FinishedGame, finished_game_of, profile_of, IsRefused}
use Rattle.pgn_game.specs.public.Conversion.{Decides}
use Rattle.pgn_tool.specs.declared.list.Stopped.{Stopped}
use Rattle.pgn_tool.specs.declared.list.Stopped.TheVariants.{Refused, Unwritten}

-- ---- lines

-- the profile of a list: games are read in full, with at most 64 tag pairs and variations to depth
-- 32, and a missing Result counts as `*`
abbrev pub list_profile : Profile
list_profile = profile_of 64 32 Full

-- the value of a name in the tag section of a game, defaults included
abbrev pub listed_value : Profile → FinishedGame → List ℕ → List ℕ
listed_value p finished name = unwrap_or (value_of (exported p.mode (result_for p.missing_result finished.marker) finished.pairs) name) []

-- a field, and the byte that ends it
abbrev pub field : List ℕ → ℕ → List ℕ
field text end = text ++ end ∷ []

-- six fields, with a tab after each but the last, and LF
abbrev pub six_fields : (number white black result plies position : List ℕ) → List ℕ
six_fields number white black result plies position =
    field number 9 ++ field white 9 ++ field black 9 ++ field result 9 ++ field plies 9 ++ field position 10

-- the line of a game just finished; the name is `unfoldable`, so that goals show it as it is
unfoldable pub finished_game_line : ℕ → Profile → FinishedGame → List ℕ
finished_game_line number p finished =
    six_fields (decimal number) (listed_value p finished (codes "White")) (listed_value p finished (codes "Black"))
    (listed_value p finished (codes "Result")) (decimal finished.plies) (fen_text finished.position)

-- the line of a game: its number, White, Black, Result, how many moves it has outside variations,
-- and the position after these
abbrev pub game_line : ℕ → Game → List ℕ
game_line number g = finished_game_line number list_profile (finished_game_of g)

-- the lines of games, one after another, of which the first has this number
abbrev pub lines_from : ℕ → List Game → List ℕ
lines_from number [] = []
lines_from number (g ∷ gs) = game_line number g ++ lines_from (number + 1) gs

-- the lines of the games that are finished before the first of these tokens that is rejected
abbrev pub lines_of : List Token → List ℕ
lines_of ts = lines_from 1 (read list_profile ts).progress.games

-- the same for a text
abbrev pub list_text : List ℕ → List ℕ
list_text s = lines_of (tokens_of s)

-- the line of the game just finished, or nothing if there is none
abbrev pub line_just_finished : Converter → List ℕ
line_just_finished c = elim c.just_finished [ None ↦ [] | Some finished ↦ finished_game_line c.games c.reading.profile finished ]

-- ---- how a list ends

-- the first fault of the text s is `found`, or there is none, and the lines of the games before it
-- are written
pub record IsListed (s : List ℕ) (found : Option Fault) (before after : Option (List ℕ)) : Type 0 where
  pub fault : (read list_profile (tokens_of s)).fault ≡ found
  pub written : Appends before after (list_text s)

-- Reading ends after the bytes u. They decide no token that is rejected. The lines of the games
-- that they decide are written.
pub record ListsNoMore (u : List ℕ) (before after : Option (List ℕ)) : Type 0 where
  pub passes : (read list_profile (decided u)).fault ≡ None
  pub written : Appends before after (lines_of (decided u))

-- of the lines of the games that these tokens finish, a prefix is written, and not all
pub record CutsLine (tokens : List Token) (before after : Option (List ℕ)) : Type 0 where
  pub count : ℕ
  pub short : count < length (lines_of tokens)
  pub front : Appends before after (take count (lines_of tokens))

-- How a list stops.
-- - `refused`: by the fault of the input. Its bytes before place 2^62 show it.
-- - `unread`: a read failed, after the bytes u.
-- - `too_long`: the source has given a byte at place 2^62, and those before it were read.
-- - `unwritten`: a line could not be written of a game that the bytes read by then decide.
pub data ListStops (left_old left_new : Option (List ℕ)) (before after : Option (List ℕ)) : Stopped → Type 0 where
  refused : (f : Fault) → IfSome left_old (λ s. IsRefused list_profile s f × IsListed s (Some f) before after)
      → ListStops left_old left_new before after (Refused f)
  unread : (u : List ℕ) → Consumes left_old left_new u → length u ≤ 2 ^ 62 → ListsNoMore u before after
      → ListStops left_old left_new before after (Refused (record { at = length u; reason = ReadFault }))
  too_long : (u rest : List ℕ) → Consumes left_old left_new (u ++ rest) → length u ≡ 2 ^ 62 → 0 < length rest → ListsNoMore u before after
      → ListStops left_old left_new before after (Refused (record { at = length u; reason = InputTooLong }))
  unwritten : (tokens : List Token) → Decides left_old left_new tokens → CutsLine tokens before after → ListStops left_old left_new before after Unwritten

-- What a list results in. What the source had left is listed, up to its end, and has at most 2^62
-- bytes. Or the list stops.
abbrev pub ListResult : Option (List ℕ) → Option (List ℕ) → Result Unit Stopped → Option (List ℕ) → Option (List ℕ) → Type 0
ListResult left_old left_new (Ok done) before after = IfSome left_old (λ s. (length s ≤ 2 ^ 62) × IsListed s None before after)
ListResult left_old left_new (Err stopped) before after = ListStops left_old left_new before after stopped

-- If the reason is `ReadFault`, the source counts one failure more. It is never `WriteFault`. For
-- any other reason the count stays.
abbrev pub CountsReadFault : Reason → ℕ → ℕ → Type 0
CountsReadFault ReadFault old new = new ≡ one_more old
CountsReadFault WriteFault old new = ⊥
CountsReadFault _ old new = new ≡ old

-- The same for a list that stops. If a line could not be written, the sink counts one failure more.
-- No other count rises.
abbrev pub CountsStopped : Stopped → ℕ → ℕ → ℕ → ℕ → Type 0
CountsStopped (Refused f) source_old source_new sink_old sink_new = CountsReadFault f.reason source_old source_new × (sink_new ≡ sink_old)
CountsStopped Unwritten source_old source_new sink_old sink_new = (source_new ≡ source_old) × (sink_new ≡ one_more sink_old)

-- the same for a result: without an error no count rises
abbrev pub CountsList : Result Unit Stopped → ℕ → ℕ → ℕ → ℕ → Type 0
CountsList (Ok done) source_old source_new sink_old sink_new = (source_new ≡ source_old) × (sink_new ≡ sink_old)
CountsList (Err stopped) source_old source_new sink_old sink_new = CountsStopped stopped source_old source_new sink_old sink_new
