-- **Bookkeeping**: what is stored of movetext while it is read.
-- That is the levels, the number of moves outside variations, and whether a move was written last.
use Rattle.std.specs.Prelude.{◌≡◌, ℕ, ◌+◌, ◌≤◌, Bool, true, false, List, [], ◌∷◌, ◌++◌, map, length, Option, None, Some, All}
use Rattle.chess_rules.specs.declared.position.Parts.{Parts}
use Rattle.pgn_layout.specs.Lines.{IsToken, lines_of, last_line}
use Rattle.pgn_game.specs.declared.levels.Level.{Level as CodeLevel}
use Rattle.pgn_game.specs.declared.mode.Mode.{Mode}
use Rattle.pgn_game.specs.games.Chess.{first_position}
use Rattle.pgn_game.specs.games.Game.{Item}
use Rattle.pgn_game.specs.games.Levels.{Level as ModelLevel, Levels as ModelLevels, levels_of, first_level, replayed, without_last, main_moves}
use Rattle.pgn_game.specs.export.Text.{Placed, placed_from, is_move, written_items, tokens_out}

-- a level: the current position, and the one before its last move, if it has a move of its own
pub record StoredLevel : Type 0 where
  pub position : Parts
  pub before : Option Parts

-- the current level, and those around it, the nearest first
pub record StoredLevels : Type 0 where
  pub current : StoredLevel
  pub around : List StoredLevel

-- a level that begins with this position, with no move of its own yet
abbrev pub level_at : Parts → StoredLevel
level_at start = record { position = start; before = None }

-- the main line of a game that begins with this position, with no move yet
abbrev pub only_level : Parts → StoredLevels
only_level start = record { current = level_at start; around = [] }

-- a level of the code, as a contract sees it
abbrev pub level_of : CodeLevel → StoredLevel
level_of l = record { position = l.position; before = l.before }

-- The code stores the levels in a list of places: the main line is first, the current level last,
-- and an empty place counts for nothing. These are the levels of such places, put inside the levels
-- ls: the nearest first.
abbrev pub inside : List StoredLevel → List (Option CodeLevel) → List StoredLevel
inside ls [] = ls
inside ls (Some l ∷ more) = inside (level_of l ∷ ls) more
inside ls (None ∷ more) = inside ls more

-- these levels, of which the nearest is first; if there is none, a main line alone
abbrev pub nearest_first : List StoredLevel → StoredLevels
nearest_first [] = only_level first_position
nearest_first (l ∷ around) = record { current = l; around = around }

-- the levels that the code stores in these places
abbrev pub code_levels : List (Option CodeLevel) → StoredLevels
code_levels places = nearest_first (inside [] places)

-- the places of these levels, of which the nearest is first here, and last there
abbrev pub places_of : List CodeLevel → List (Option CodeLevel)
places_of [] = []
places_of (l ∷ around) = places_of around ++ Some l ∷ []

-- No place is empty, there is a current level, and there are at most so many levels.
pub record FitsLevelStore (most : ℕ) (places : List (Option CodeLevel)) : Type 0 where
  pub current : CodeLevel
  pub around : List CodeLevel
  pub there : places ≡ places_of (current ∷ around)
  pub room : length places ≤ most

-- n variations are open, of at most so many levels, with the main line
pub record IsDepth (most : ℕ) (around : List StoredLevel) (n : ℕ) : Type 0 where
  pub value : n ≡ length around
  pub room : n + 1 ≤ most

-- A variation closes: the nearest level around is current again. No claim if there is none.
abbrev pub ClosesLevel : List StoredLevel → StoredLevels → Type 0
ClosesLevel [] new = Unit {0}
ClosesLevel (l ∷ around) new = new ≡ record { current = l; around = around }

-- What a contract sees of the current movetext: its levels, its number of moves outside variations,
-- and whether the last item written is a move.
pub record Movetext : Type 0 where
  pub levels : StoredLevels
  pub plies : ℕ
  pub is_after_move : Bool

-- no item yet, from this position on
abbrev pub movetext_from : Parts → Movetext
movetext_from start = record { levels = only_level start; plies = 0; is_after_move = false }

-- If a FEN gave a first position: no item yet, from there on. Otherwise unchanged.
abbrev pub movetext_after_fen : Option Parts → Movetext → Movetext
movetext_after_fen None text = text
movetext_after_fen (Some start) text = movetext_from start

-- the position before the last move of a level, if it has a move of its own
abbrev pub before_last : Parts → ModelLevel → Option Parts
before_last start l = elim l.has_own_move [ true ↦ Some (replayed start (without_last l.trail)) | false ↦ None ]

-- a level of the definitions as it is stored, with positions in place of moves
abbrev pub stored_level : Parts → ModelLevel → StoredLevel
stored_level start l = record { position = replayed start l.trail; before = before_last start l }

-- all levels of the definitions as they are stored
abbrev pub stored_levels : Parts → ModelLevels → StoredLevels
stored_levels start ls = record { current = stored_level start ls.current; around = map (stored_level start) ls.around }

-- whether the last of these items is a move; without one, the Bool
abbrev pub ends_in_move : Bool → List Placed → Bool
ends_in_move is_after_move [] = is_after_move
ends_in_move is_after_move (i ∷ is) = ends_in_move (is_move i.item) is

-- What is held of the text of these items by this mode: whether a move was written last, and the
-- last line.
pub record HoldsLine (mode : Mode) (start : Parts) (items : List Item) (after_move : Bool) (line : List ℕ) : Type 0 where
  pub is_after_move : after_move ≡ ends_in_move false (written_items mode (placed_from start first_level items))
  pub tokens : All IsToken (tokens_out mode start items)
  pub last : line ≡ last_line (lines_of (tokens_out mode start items))

-- the same; without a mode the line is empty
abbrev pub HoldsLineOf : Option Mode → Parts → List Item → Bool → List ℕ → Type 0
HoldsLineOf (Some mode) start items is_after_move line = HoldsLine mode start items is_after_move line
HoldsLineOf None start items is_after_move line = line ≡ []

-- The current movetext is that of these items, of a game that begins with this position. The line
-- held is the last one by this mode; without a mode it is empty.
pub record HoldsItems (mode : Option Mode) (start : Parts) (items : List Item) (text : Movetext) (line : List ℕ) : Type 0 where
  pub levels : text.levels ≡ stored_levels start (levels_of items)
  pub plies : text.plies ≡ length (main_moves items)
  pub held : HoldsLineOf mode start items text.is_after_move line
