-- **Bookkeeping**: the converter with which the next game is read.
-- Letters: p is the profile, c a converter. `text` is the text of a call, and `from` the place
-- where it is read from. s is that text with white space in place of the bytes before this place,
-- and `piece` has its bytes from the place on. `found` is the result before its bytes written are
-- counted. `old` and `new` are the converter before a call and after it, and `sink` the sink.
-- `before` and `after` are the bytes that the sink has taken then, if they are kept.
use Rattle.std.specs.Prelude.{◌≡◌, ℕ, Bool, true, false, List, [], drop, Option, Some, None}
use Rattle.pgn_layout.specs.Device.{Device}
use Rattle.pgn_lexer.specs.WhiteSpace.{white_space}
use Rattle.pgn_game.specs.declared.marker.Marker.TheVariants.{Unknown}
use Rattle.pgn_game.specs.declared.mode.Mode.{Mode}
use Rattle.pgn_game.specs.games.Profile.{Profile}
use Rattle.pgn_game.specs.public.ConverterCalls.{Converter, Stands, finished_game_of, reading_by_marker, writing_nothing}
use Rattle.pgn_c.specs.declared.game_result.PgnGame.{PgnGame}
use Rattle.pgn_c.specs.NextGame.{NextOf, in_first_column, profile_counting, profile_taking, text_from}

-- the converter has read nothing, and begins at the place
abbrev pub BeginsAt : Profile → List ℕ → ℕ → Converter → Type 0
BeginsAt p text from c = Stands p c (white_space from (in_first_column text from)) None []

-- if a game is found, it is the one that the converter, which reads by p, has just finished
abbrev pub Holds : {p : Profile} {s piece : List ℕ} {found : PgnGame} {before after : Option (List ℕ)}
    → NextOf p s piece found before after → Converter → Type 0
Holds {p} (NextOf.game is) c = (c.reading.profile ≡ p) × (c.just_finished ≡ Some (finished_game_of is.game))
Holds _ c = Unit {0}

-- what is found, and written, by a converter
abbrev pub Finds : Profile → (s piece : List ℕ) → PgnGame → Converter → Option (List ℕ) → Option (List ℕ) → Type 0
Finds p s piece found new before after = (next : NextOf p s piece found before after) × Holds next new

-- a converter that begins at the place, by any profile, finds the next game
abbrev pub RunsNext : Converter → List ℕ → ℕ → PgnGame → Converter → Device → Type 0
RunsNext old text from found new sink =
    (p : Profile) → BeginsAt p text from old → Finds p (text_from text from) (drop from text) found new sink.before sink.after

-- the profile of a reading in which a missing Result takes the marker, or counts as `*`
abbrev pub profile_if : (takes_marker : Bool) → Mode → Profile
profile_if true mode = profile_taking mode
profile_if false mode = profile_counting mode Unknown

-- the converter that writes nothing from now on; a missing Result takes the marker, or counts as
-- before
abbrev pub silenced_if : (takes_marker : Bool) → Converter → Converter
silenced_if true c = reading_by_marker c
silenced_if false c = writing_nothing c

-- where it begins, it begins also then
abbrev pub BeginsSilently : (takes_marker : Bool) → Mode → Converter → Converter → Type 0
BeginsSilently takes_marker mode old new =
    (text : List ℕ) (from : ℕ) → BeginsAt (profile_counting mode Unknown) text from old → BeginsAt (profile_if takes_marker mode) text from new

-- the next game is read; of what is written nothing is said
abbrev pub ReadsTo : Profile → List ℕ → ℕ → PgnGame → Converter → Type 0
ReadsTo p text from found new = Finds p (text_from text from) (drop from text) found new None None
