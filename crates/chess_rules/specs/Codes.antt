-- **Bookkeeping**: the code of a piece, by which a table says where it goes. No rule of play rests
-- on it. Letters: s and t are squares.
use Rattle.std.specs.Prelude.{ℕ, Bool, false, Option, None, Some, ◌==◌, if◌then◌else◌}
use Rattle.chess_rules.specs.declared.piece.Kind.{Kind}
use Rattle.chess_rules.specs.declared.piece.Kind.TheVariants.{King, Queen, Rook, Bishop, Knight, Pawn}
use Rattle.chess_rules.specs.declared.piece.Piece.{Piece}
use Rattle.chess_rules.specs.Square.{Square, is_adjacent, is_jump, in_line, on_diagonal}
use Rattle.chess_rules.specs.Reach.{is_aligned}

-- The code of a kind: the sum of 1 if it is in `straight`, 2 if in `diagonal`, and 4 if in `near`.
abbrev pub kind_code : Kind → ℕ
kind_code Rook = 1
kind_code Bishop = 2
kind_code Queen = 3
kind_code Pawn = 4
kind_code Knight = 5
kind_code King = 6

-- the code of what is on a square: 0 of nothing
abbrev pub code_of : Option Piece → ℕ
code_of None = 0
code_of (Some x) = kind_code x.kind

-- a piece with the code would attack t from s, were all squares between empty; never for a pawn
abbrev pub code_reaches : ℕ → Square → Square → Bool
code_reaches code s t =
    if code == 1 then in_line s t
    else if code == 2 then on_diagonal s t
    else if code == 3 then is_aligned s t
    else if code == 5 then is_jump s t
    else if code == 6 then is_adjacent s t
    else false
