-- **Definition**: the first field of a FEN: what is on the board (PGN 16.1.3.1).
use Rattle.std.specs.Prelude.{ℕ, ◌+◌, ◌-◌, Bool, ◌&&◌, ◌||◌, List, [], ◌∷◌, ◌++◌, Option, None, Some, length, replicate, reverse, map, flat_map, is_some, ◌==◌, nat_le, if◌then◌else◌}
use Rattle.std.specs.List.{list_all, slice_split, join_with_byte}
use Rattle.chess_rules.specs.declared.piece.Piece.{Piece}
use Rattle.chess_rules.specs.Square.{square, lines}
use Rattle.chess_rules.specs.Board.{Board, at}
use Rattle.chess_text.specs.Letter.{piece_letter, piece_of}

abbrev pub is_slash : ℕ → Bool
is_slash c = c == 47

-- a digit from 1 to 8, which means so many empty squares
abbrev pub is_run : ℕ → Bool
is_run c = nat_le 49 c && nat_le c 56

-- a digit of a run, or the letter of a piece
abbrev pub is_item : ℕ → Bool
is_item c = is_run c || is_some (piece_of c)

abbrev pub one_cell : Option Piece → Board
one_cell None = []
one_cell (Some x) = Some x ∷ []

-- the squares that the byte means; none if it is no such digit or letter
abbrev pub cells_at : ℕ → Board
cells_at c = if is_run c then replicate (c - 48) None else one_cell (piece_of c)

-- the squares that the bytes mean, from file a on
abbrev pub cells_of : List ℕ → Board
cells_of s = flat_map cells_at s

-- A rank is spelled by digits and letters for exactly 8 squares. Digits may be side by side.
abbrev pub is_rank : List ℕ → Bool
is_rank s = list_all is_item s && (length (cells_of s) == 8)

-- the texts between the slashes: rank 8 first
abbrev pub ranks : List ℕ → List (List ℕ)
ranks s = slice_split is_slash s

abbrev pub is_placement : List ℕ → Bool
is_placement s = (length (ranks s) == 8) && list_all is_rank (ranks s)

-- the board that is spelled, from rank 1 on
abbrev pub placement_of : List ℕ → Option Board
placement_of s = if is_placement s then Some (flat_map cells_of (reverse (ranks s))) else None

-- The canonical text.

-- the digit of a run of n empty squares, from 1 to 8
abbrev pub run_text : ℕ → List ℕ
run_text n = if n == 0 then [] else (48 + n) ∷ []

-- the text of the squares that follow a run of n empty ones; each run is as long as possible
abbrev pub rank_text : ℕ → Board → List ℕ
rank_text n [] = run_text n
rank_text n (None ∷ cells) = rank_text (n + 1) cells
rank_text n (Some x ∷ cells) = run_text n ++ piece_letter x ∷ rank_text 0 cells

-- the content of the rank, from file a to file h
abbrev pub row : Board → ℕ → Board
row b rank = map (λ file. at b (square file rank)) lines

-- rank 8 first
abbrev pub placement_text : Board → List ℕ
placement_text b = join_with_byte 47 (map (λ rank. rank_text 0 (row b rank)) (reverse lines))
