-- **Bookkeeping**: the lines of a tag section one by one, as they are written.
use Rattle.std.specs.Prelude.{ℕ, Bool, true, false, ◌||◌, ◌&&◌, List, [], ◌∷◌, ◌++◌, bytes_eq, codes, unwrap_or}
use Rattle.pgn_layout.specs.TagLine.{tag_line}
use Rattle.pgn_game.specs.games.Pairs.{Pair, value_of}
use Rattle.pgn_game.specs.export.TagSection.{in_roster}

-- the texts of the elements in order
abbrev pub text_by : {A : Type 0} → (A → List ℕ) → List A → List ℕ
text_by f [] = []
text_by f (x ∷ xs) = f x ++ text_by f xs

-- The line of the roster pair d: the value that the game has for this name, or else the default,
-- which is d's own.
abbrev pub roster_line : List Pair → Pair → List ℕ
roster_line ps d = tag_line d.name (unwrap_or (value_of ps d.name) d.value)

-- The line of a pair outside the roster. A roster pair has no line here. A SetUp has none if there
-- is a FEN, whose own SetUp is written instead.
abbrev pub other_line : Bool → Pair → List ℕ
other_line has_fen p = elim (in_roster p.name || (has_fen && bytes_eq p.name (codes "SetUp"))) [ true ↦ [] | false ↦ tag_line p.name p.value ]
