-- **Definition**: the letters of pieces, and the letters and digits of squares.
-- (PGN 8.2.3.1, 8.2.3.2, 16.1.3.1)
use Rattle.std.specs.Prelude.{ℕ, ◌+◌, List, [], ◌∷◌, Option, find, map, flat_map, ◌==◌}
use Rattle.chess_rules.specs.declared.piece.Colour.{Colour}
use Rattle.chess_rules.specs.declared.piece.Colour.TheVariants.{White, Black}
use Rattle.chess_rules.specs.declared.piece.Kind.{Kind}
use Rattle.chess_rules.specs.declared.piece.Kind.TheVariants.{King, Queen, Rook, Bishop, Knight, Pawn}
use Rattle.chess_rules.specs.declared.piece.Piece.{Piece}
use Rattle.chess_rules.specs.Square.{Square}

-- K, Q, R, B, N, P (8.2.3.2)
abbrev pub letter : Kind → ℕ
letter King = 75
letter Queen = 81
letter Rook = 82
letter Bishop = 66
letter Knight = 78
letter Pawn = 80

-- the capital letter for White, the small one for Black (16.1.3.1)
abbrev pub coloured : Colour → ℕ → ℕ
coloured White c = c
coloured Black c = c + 32

abbrev pub piece_letter : Piece → ℕ
piece_letter x = coloured x.colour (letter x.kind)

abbrev pub kinds : List Kind
kinds = King ∷ Queen ∷ Rook ∷ Bishop ∷ Knight ∷ Pawn ∷ []

abbrev pub every_piece : List Piece
every_piece = flat_map (λ c. map (λ k. record { colour = c; kind = k }) kinds) (White ∷ Black ∷ [])

-- the piece with this letter
abbrev pub piece_of : ℕ → Option Piece
piece_of c = find (λ x. piece_letter x == c) every_piece

-- a to h, 1 to 8 (8.2.3.1)
abbrev pub file_letter : ℕ → ℕ
file_letter file = 97 + file

abbrev pub rank_digit : ℕ → ℕ
rank_digit rank = 49 + rank

abbrev pub square_text : Square → List ℕ
square_text s = file_letter s.file ∷ rank_digit s.rank ∷ []
