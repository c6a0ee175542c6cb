-- **Definition**: which moves lead to an item of movetext, and the position after them (PGN 8.2.5).
-- Letters: m is a move, l a level, g a game, ms are moves, the last one first, ls are levels, ps
-- are pairs.
use Rattle.std.specs.Prelude.{ℕ, Bool, true, false, List, [], ◌∷◌, fold, length, Option, None, Some, Result, Ok, Err, codes}
use Rattle.chess_rules.specs.declared.position.Move.{Move}
use Rattle.chess_rules.specs.declared.position.Parts.{Parts}
use Rattle.chess_text.specs.declared.fen.FenFault.{FenFault}
use Rattle.pgn_game.specs.games.Chess.{first_position, position_of, play}
use Rattle.pgn_game.specs.games.Pairs.{Pair, value_of}
use Rattle.pgn_game.specs.games.Game.{Item, move, open_variation, close_variation, Game}

-- A bad FEN is rejected elsewhere; any position would do here.
abbrev pub position_or_first : Result Parts FenFault → Parts
position_or_first (Ok p) = p
position_or_first (Err fault) = first_position

-- the first position of a game, by the value of its FEN, if it has one
abbrev pub start_by : Option (List ℕ) → Parts
start_by None = first_position
start_by (Some text) = position_or_first (position_of text)

-- the first position of a game with these pairs: a FEN pair alone decides it (PGN 9.7.2)
abbrev pub start_of : List Pair → Parts
start_of ps = start_by (value_of ps (codes "FEN"))

-- One level of movetext, the game's own or a variation's: the moves that lead to here from the
-- game's first position, the last one first; and whether the last one was played at this level.
pub record Level : Type 0 where
  pub trail : List Move
  pub has_own_move : Bool

-- the current level, and those around it, the nearest first
pub record Levels : Type 0 where
  pub current : Level
  pub around : List Level

-- no move is played
abbrev pub first_level : Levels
first_level = record { current = record { trail = []; has_own_move = false }; around = [] }

-- the moves without the last one
abbrev pub without_last : List Move → List Move
without_last [] = []
without_last (m ∷ ms) = ms

-- the nearest of the levels around is the current one again
abbrev pub back_to : List Level → Levels → Levels
back_to [] ls = ls
back_to (l ∷ around) ls = record { current = l; around = around }

-- A move is played at the current level. A variation begins a level without the last move before
-- it, which it replaces. Its end brings back the level around it. Nothing else matters.
abbrev pub levels_after : Levels → Item → Levels
levels_after ls (move m) = record { current = record { trail = m ∷ ls.current.trail; has_own_move = true }; around = ls.around }
levels_after ls open_variation =
    record { current = record { trail = without_last ls.current.trail; has_own_move = false }; around = ls.current ∷ ls.around }
levels_after ls close_variation = back_to ls.around ls
levels_after ls _ = ls

-- the levels after these items
abbrev pub levels_of : List Item → Levels
levels_of items = fold levels_after first_level items

-- how many variations are open
abbrev pub depth : Levels → ℕ
depth ls = length ls.around

-- the position after these moves, the last one first
abbrev pub replayed : Parts → List Move → Parts
replayed start [] = start
replayed start (m ∷ ms) = play (replayed start ms) m

-- the position at the current level: all moves that lead to it, replayed from the game's first
-- position
abbrev pub here : Parts → Levels → Parts
here start ls = replayed start ls.current.trail

-- the level around all others, which is that of the main line
abbrev pub outermost : Level → List Level → Level
outermost l [] = l
outermost l (k ∷ ks) = outermost k ks

-- the moves outside variations, the last one first
abbrev pub main_moves : List Item → List Move
main_moves items = (outermost (levels_of items).current (levels_of items).around).trail

-- how many of these moves a game has
abbrev pub plies_of : Game → ℕ
plies_of g = length (main_moves g.items)

-- the position after these moves
abbrev pub last_position : Game → Parts
last_position g = replayed (start_of g.pairs) (main_moves g.items)
