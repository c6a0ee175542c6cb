-- **Definition**: what is on the squares of the board (FIDE 2.2).
use Rattle.std.specs.Prelude.{ℕ, ◌+◌, ◌*◌, Bool, true, false, ◌&&◌, ◌||◌, List, Option, None, Some, slice_index_or, count_by, slice_set, is_none, ◌==◌}
use Rattle.chess_rules.specs.declared.piece.Colour.{Colour}
use Rattle.chess_rules.specs.declared.piece.Colour.TheVariants.{White, Black}
use Rattle.chess_rules.specs.declared.piece.Kind.{Kind}
use Rattle.chess_rules.specs.declared.piece.Kind.TheVariants.{King, Queen, Rook, Bishop, Knight, Pawn}
use Rattle.chess_rules.specs.declared.piece.Piece.{Piece}
use Rattle.chess_rules.specs.Square.{Square}

-- the 64 cells, from a1, b1 to h8
abbrev pub Board : Type 0
Board = List (Option Piece)

abbrev pub cell_of : Square → ℕ
cell_of s = 8 * s.rank + s.file

-- the content of a square: a piece, or none
abbrev pub at : Board → Square → Option Piece
at b s = slice_index_or b (cell_of s) None

-- the board with that content of the square
abbrev pub put : Board → Square → Option Piece → Board
put b s cell = slice_set b (cell_of s) cell

-- a piece, as the content of a square
abbrev pub some_piece : Colour → Kind → Option Piece
some_piece c k = Some (record { colour = c; kind = k })

abbrev pub is_empty : Board → Square → Bool
is_empty b s = is_none (at b s)

abbrev pub other : Colour → Colour
other White = Black
other Black = White

abbrev pub same_colour : Colour → Colour → Bool
same_colour White White = true
same_colour Black Black = true
same_colour White Black = false
same_colour Black White = false

abbrev pub kind_number : Kind → ℕ
kind_number King = 0
kind_number Queen = 1
kind_number Rook = 2
kind_number Bishop = 3
kind_number Knight = 4
kind_number Pawn = 5

abbrev pub same_kind : Kind → Kind → Bool
same_kind k l = kind_number k == kind_number l

-- a piece of the colour is there
abbrev pub has_colour : Colour → Option Piece → Bool
has_colour c None = false
has_colour c (Some x) = same_colour c x.colour

-- a piece of the colour and kind is there
abbrev pub has_piece : Colour → Kind → Option Piece → Bool
has_piece c k None = false
has_piece c k (Some x) = same_colour c x.colour && same_kind k x.kind

-- how many cells have the colour's king; a position has one of each colour
abbrev pub kings : Colour → Board → ℕ
kings c b = count_by (has_piece c King) b

-- a pawn of either colour is there
abbrev pub is_pawn : Option Piece → Bool
is_pawn cell = has_piece White Pawn cell || has_piece Black Pawn cell
