-- **Definition**: the lines of a text, and where reading goes on in them behind a bad game.
use Rattle.std.specs.Prelude.{ℕ, Bool, not, ◌||◌, ◌&&◌, List, [], ◌∷◌, drop, Option, None, Some, ◌==◌, if◌then◌else◌}
use Rattle.pgn_sections.specs.Bytes.{begins_with}
use Rattle.pgn_sections.specs.BadGame.{unread, place_on, behind_line}
use Rattle.pgn_sections.specs.declared.bad_game.BadGame.{BadGame}

-- A line ends with LF, CR or both. This byte ends it, if this text follows.
abbrev pub ends_line : ℕ → List ℕ → Bool
ends_line b s = (b == 10) || ((b == 13) && not (begins_with 10 s))

abbrev pub with_first : ℕ → List (List ℕ) → List (List ℕ)
with_first b [] = (b ∷ []) ∷ []
with_first b (line ∷ lines) = (b ∷ line) ∷ lines

-- the lines, each with its end
abbrev pub lines_of : List ℕ → List (List ℕ)
lines_of [] = []
lines_of (b ∷ s) = if ends_line b s then (b ∷ []) ∷ lines_of s else with_first b (lines_of s)

-- the first of two places, if there is one
abbrev pub first_place : Option ℕ → Option ℕ → Option ℕ
first_place None other = other
first_place (Some place) other = Some place

-- the place on the first line that shows one
abbrev pub place_in : BadGame → List (List ℕ) → Option ℕ
place_in g [] = None
place_in g (line ∷ lines) = first_place (place_on g line) (place_in (behind_line g line) lines)

-- Where reading goes on behind a bad game, whose first line begins where the game before ends.
-- None: not in this text.
abbrev pub next_place : List ℕ → ℕ → ℕ → Option ℕ
next_place text begin fault = place_in (unread begin fault) (lines_of (drop begin text))
