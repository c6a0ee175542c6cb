-- Boards and moves written as texts, for the worked positions.
use Rattle.worked_rows.proofs.Words.{String, ℕ, codes, ◌+◌, ◌-◌, List, [], ◌∷◌, ◌++◌, Option, None, Some, map, flat_map, replicate, find, option_map, ◌==◌, nat_le, unwrap_or, ◌&&◌, if◌then◌else◌, White, Black, King, Queen, Rook, Bishop, Knight, Pawn, Promotion, Move, Parts, Square, square}
use Rattle.std.specs.List.{list_any}
use Rattle.chess_rules.specs.declared.piece.Colour.{Colour}
use Rattle.chess_rules.specs.declared.piece.Kind.{Kind}
use Rattle.chess_rules.specs.declared.piece.Piece.{Piece}
use Rattle.chess_rules.specs.declared.position.Rights.{Rights}
use Rattle.chess_rules.specs.Board.{Board}

abbrev kind_letter : Kind → ℕ
kind_letter King = 75
kind_letter Queen = 81
kind_letter Rook = 82
kind_letter Bishop = 66
kind_letter Knight = 78
kind_letter Pawn = 80

abbrev letter : Colour → Kind → ℕ
letter White k = kind_letter k
letter Black k = kind_letter k + 32

abbrev pieces : List Piece
pieces =
    flat_map (λ c. map (λ k. record { colour = c; kind = k }) (King ∷ Queen ∷ Rook ∷ Bishop ∷ Knight ∷ Pawn ∷ []))
    (White ∷ Black ∷ [])

-- a digit is a run of empty squares, a letter a piece
abbrev cells : ℕ → Board
cells c =
    if nat_le 49 c && nat_le c 56 then replicate (c - 48) None
    else unwrap_or (option_map (λ x. Some x ∷ []) (find (λ x. letter x.colour x.kind == c) pieces)) []

-- the ranks from 8 to 1, each after the rank below it
abbrev drawn_from : List ℕ → Board → Board → Board
drawn_from [] rank above = rank ++ above
drawn_from (c ∷ s) rank above = drawn_from s (if c == 47 then [] else rank ++ cells c) (if c == 47 then rank ++ above else above)

-- the rights whose letters stand there, as in KQkq
abbrev rights : List ℕ → Rights
rights s =
    record {
      white_short = list_any (λ c. c == 75) s;
      white_long = list_any (λ c. c == 81) s;
      black_short = list_any (λ c. c == 107) s;
      black_long = list_any (λ c. c == 113) s;
    }

-- the fields of PGN 16.1.3 in their order
abbrev pub position : String → Colour → String → Option Square → ℕ → ℕ → Parts
position s c r target half full =
    record { board = drawn_from (codes s) [] []; side = c; rights = rights (codes r); target = target; half = half; full = full }

-- with no rights, no target and the first numbers
abbrev pub white : String → Parts
white s = position s White "" None 0 1

abbrev pub black : String → Parts
black s = position s Black "" None 0 1

-- a square by its letter and digit
abbrev square_at : List ℕ → Square
square_at (f ∷ r ∷ []) = square (f - 97) (r - 49)
square_at _ = square 9 9

abbrev pub sq : String → Square
sq s = square_at (codes s)

abbrev pub promoting : String → String → Option Promotion → Move
promoting s t q = record { from = sq s; to = sq t; promotion = q }

abbrev pub move : String → String → Move
move s t = promoting s t None
