-- **Definition**: the lines of a text that is read in pieces.
use Rattle.std.specs.Prelude.{ℕ, ◌≡◌, ◌+◌, ◌-◌, ◌≤◌, Bool, false, ◌||◌, IsTrue, List, [], ◌∷◌, ◌++◌, drop, length, Option, None, Some, ◌==◌, if◌then◌else◌}
use Rattle.pgn_sections.specs.BadGame.{place_on, behind_line}
use Rattle.pgn_sections.specs.Lines.{lines_of, place_in}
use Rattle.pgn_sections.specs.declared.bad_game.BadGame.{BadGame}

-- This can follow a piece: nothing, if it is the last one.
abbrev pub CanFollow : Bool → List ℕ → Type 0
CanFollow is_last s = IsTrue is_last → s ≡ []

-- the place that was found, or that of the game and the text that are left
abbrev pub place_or_on : Option ℕ → BadGame → List ℕ → Option ℕ
place_or_on None g s = place_in g (lines_of s)
place_or_on (Some place) g s = Some place

-- whether the last byte is an LF (10)
abbrev pub ends_with_line_feed : List ℕ → Bool
ends_with_line_feed [] = false
ends_with_line_feed (b ∷ []) = b == 10
ends_with_line_feed (b ∷ c ∷ s) = ends_with_line_feed (c ∷ s)

-- Those of the lines of a piece that are whole, whatever follows. All are, if it is the last piece.
-- Else the last line is whole only behind an LF: an LF may follow a CR, and text any other byte.
abbrev pub whole_lines : Bool → List (List ℕ) → List (List ℕ)
whole_lines is_last [] = []
whole_lines is_last (line ∷ []) = if is_last || ends_with_line_feed line then line ∷ [] else []
whole_lines is_last (line ∷ next ∷ lines) = line ∷ whole_lines is_last (next ∷ lines)

-- the game at a place, if there is one, else this game
abbrev pub at_place_or : Option ℕ → BadGame → BadGame → BadGame
at_place_or None g other = other
at_place_or (Some place) g other = record g { at = place }

-- What was seen of the game behind these lines. If one of them shows where reading goes on, it has
-- seen those before, and `at` is that place.
abbrev pub behind_lines : BadGame → List (List ℕ) → BadGame
behind_lines g [] = g
behind_lines g (line ∷ lines) = at_place_or (place_on g line) g (behind_lines (behind_line g line) lines)

-- Place and game are those of the whole lines of the piece, one after the other. So, whatever
-- follows the piece, the place is that of all the lines from the piece on. If it is not known yet,
-- place and game are those of the lines from where the game is then. At the end of the text none is
-- left.
pub record FindsPlace (old : BadGame) (piece : List ℕ) (is_last : Bool) (result : Option ℕ) (new : BadGame) : Type 0 where
  pub found : result ≡ place_in old (whole_lines is_last (lines_of piece))
  pub game : new ≡ behind_lines old (whole_lines is_last (lines_of piece))
  pub from : result ≡ None → old.at ≤ new.at
  pub within : result ≡ None → new.at ≤ old.at + length piece
  pub place : (s : List ℕ) → CanFollow is_last s → place_in old (lines_of (piece ++ s)) ≡ place_or_on result new (drop (new.at - old.at) piece ++ s)
  pub goes_on : result ≡ None → (s : List ℕ) → CanFollow is_last s
      → behind_lines old (lines_of (piece ++ s)) ≡ behind_lines new (lines_of (drop (new.at - old.at) piece ++ s))
  pub whole : result ≡ None → IsTrue is_last → new.at ≡ old.at + length piece

-- the game begins at the same place, has the same fault, and is read for the same ends
pub record IsSameGame (old new : BadGame) : Type 0 where
  pub begin : new.begin ≡ old.begin
  pub fault : new.fault ≡ old.fault
  pub ends : new.ends ≡ old.ends
