-- **Definition**: the termination markers and their texts, and what a missing Result counts as.
use Rattle.std.specs.Prelude.{ℕ, List, codes}
use Rattle.pgn_game.specs.declared.marker.Marker.{Marker}
use Rattle.pgn_game.specs.declared.marker.Marker.TheVariants.{WhiteWins, BlackWins, Draw, Unknown}
use Rattle.pgn_game.specs.declared.marker.MissingResult.{MissingResult}
use Rattle.pgn_game.specs.declared.marker.MissingResult.TheVariants.{CountsAs, TakesTheMarker}
use Rattle.pgn_game.specs.games.Profile.{Missing, counts_as, takes_the_marker}

-- the text of a marker (PGN 8.2.6)
abbrev pub marker_text : Marker → List ℕ
marker_text WhiteWins = codes "1-0"
marker_text BlackWins = codes "0-1"
marker_text Draw = codes "1/2-1/2"
marker_text Unknown = codes "*"

-- a missing Result of the code, as a profile has it
abbrev pub missing_of : MissingResult → Missing
missing_of (CountsAs marker) = counts_as (marker_text marker)
missing_of TakesTheMarker = takes_the_marker
