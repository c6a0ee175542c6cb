-- **Bookkeeping**: how the code reads the lines of a bad game, byte by byte.
use Rattle.std.specs.Prelude.{ℕ, ◌+◌, Bool, false, not, ◌&&◌, List, [], ◌∷◌, Option, None, Some, ◌==◌, if◌then◌else◌}
use Rattle.pgn_sections.specs.Line.{behind_line, line_begun, line_with, place_on}
use Rattle.pgn_sections.specs.Lines.{first_place}
use Rattle.pgn_sections.specs.declared.bad_game.BadGame.{BadGame}
use Rattle.pgn_sections.specs.declared.search.LineReader.{LineReader}

-- before the first byte of a line of the game
abbrev pub reader_of : BadGame → LineReader
reader_of g = record { game = g; line = line_begun g; is_behind_return = false; found = None }

-- the line has ended, and shows a place or not
abbrev pub ended_at : Option ℕ → LineReader → LineReader
ended_at None r = reader_of (behind_line r.game r.line)
ended_at (Some place) r = record r { found = Some place }

abbrev pub line_ended : LineReader → LineReader
line_ended r = ended_at (place_on r.game r.line) r

-- with a byte of the line
abbrev pub with_byte : LineReader → ℕ → LineReader
with_byte r b = record r { line = line_with r.line b; is_behind_return = b == 13 }

-- an LF (10) ends the line
abbrev pub byte_taken : LineReader → ℕ → LineReader
byte_taken r b = if b == 10 then line_ended (with_byte r b) else with_byte r b

-- if no place is found
abbrev pub byte_taken_in : Option ℕ → LineReader → ℕ → LineReader
byte_taken_in None r b = byte_taken r b
byte_taken_in (Some place) r b = r

abbrev pub byte_taken_if : LineReader → ℕ → LineReader
byte_taken_if r b = byte_taken_in r.found r b

-- a byte behind a CR ends the line, if it is no LF (10)
abbrev pub line_ended_in : Option ℕ → LineReader → ℕ → LineReader
line_ended_in None r b = if r.is_behind_return && not (b == 10) then line_ended r else r
line_ended_in (Some place) r b = r

abbrev pub reader_with : LineReader → ℕ → LineReader
reader_with r b = byte_taken_if (line_ended_in r.found r b) b

-- with the bytes of a text
abbrev pub reader_over : LineReader → List ℕ → LineReader
reader_over r [] = r
reader_over r (b ∷ s) = reader_over (reader_with r b) s

-- the place that the whole lines show, or at the end of the text also the last one
abbrev pub place_at_end : Bool → LineReader → Option ℕ
place_at_end is_last r =
    first_place r.found (if is_last && not (r.line.length == 0) then place_on r.game r.line else None)

-- the place if this text follows
abbrev pub place_behind : LineReader → Bool → List ℕ → Option ℕ
place_behind r is_last s = place_at_end is_last (reader_over r s)

-- so many bytes of the text are read, or more
abbrev pub place_read : LineReader → ℕ
place_read r = r.line.at + r.line.length

-- where the game before the bad one ends
abbrev pub game_begin : LineReader → ℕ
game_begin r = r.game.begin
