-- **Bookkeeping**: how the place behind a bad game is found.
use Rattle.std.specs.Prelude.{◌≡◌, ℕ, ◌+◌, ◌-◌, ◌^◌, ◌<◌, ◌≤◌, Bool, true, List, drop, length, Option, Some, IfSome, Result, Ok, Err}
use Rattle.pgn_layout.specs.Device.{Device, FailsOnce, IsStill}
use Rattle.pgn_sections.specs.Lines.{next_place}
use Rattle.pgn_sections.specs.Search.{game_begin, place_behind, place_read}
use Rattle.pgn_sections.specs.declared.search.LineReader.{LineReader}
use Rattle.pgn_game.specs.declared.reason.Fault.{Fault}
use Rattle.pgn_game.specs.declared.reason.Reason.TheVariants.{ReadFault}
use Rattle.pgn_game.specs.public.ArchiveCalls.{CannotSkip, is_behind_line_end}
use Rattle.pgn_game.specs.public.SourceCalls.{IsSetTo}

abbrev pub IsReadFault : Fault → Type 0
IsReadFault f = f.reason ≡ ReadFault

abbrev pub FindsSection : Option (List ℕ) → (begin fault : ℕ) → Device → Result (Option ℕ) Fault → Type 0
FindsSection text begin fault source (Ok found) =
    IfSome found (λ place. (begin < place) × (place ≤ 2 ^ 62)) × IsStill source
    × IfSome text (λ s. found ≡ next_place s begin fault)
FindsSection text begin fault source (Err f) = CannotSkip text source f

abbrev pub SetsTo : Option (List ℕ) → ℕ → Device → Result Bool Fault → Type 0
SetsTo text place source (Ok in_first_column) =
    IsSetTo text place source.after × IsStill source × IfSome text (λ s. in_first_column ≡ is_behind_line_end s place)
SetsTo text place source (Err f) = (f.reason ≡ ReadFault) × FailsOnce source

-- What is left of the text, if it is known: it has as many bytes less as were read, and with it the
-- search finds what the whole text shows.
pub record LeavesToSearch (s : List ℕ) (begin fault place : ℕ) (search : LineReader) (left : Option (List ℕ)) : Type 0 where
  pub rest : List ℕ
  pub is : left ≡ Some rest
  pub count : (place - begin) + length rest ≡ length (drop begin s)
  pub finds : place_behind search true rest ≡ next_place s begin fault

pub record SearchSoFar (text : Option (List ℕ)) (begin fault place : ℕ) (search : LineReader) (left : Option (List ℕ)) : Type 0 where
  pub from : begin ≤ place
  pub within : place ≤ 2 ^ 62
  pub read : place_read search ≤ place
  pub begins : game_begin search ≡ begin
  pub leaves : IfSome text (λ s. LeavesToSearch s begin fault place search left)
