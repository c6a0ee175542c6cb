-- **Definition**: what is on the squares of a rank, as a word with a byte for each square.
use Rattle.std.specs.Prelude.{ℕ, zero, suc, ◌+◌, ◌*◌, ◌/◌, ◌%◌, List, [], ◌∷◌, map, None, Some, ◌==◌, if◌then◌else◌}
use Rattle.chess_rules.specs.declared.piece.Colour.TheVariants.{Black}
use Rattle.chess_rules.specs.declared.piece.Kind.{Kind}
use Rattle.chess_rules.specs.declared.piece.Kind.TheVariants.{King, Queen, Rook, Bishop, Knight, Pawn}
use Rattle.chess_rules.specs.declared.piece.Piece.{Piece}
use Rattle.chess_rules.specs.Square.{square, lines}
use Rattle.chess_rules.specs.Board.{Board, at, same_colour}

abbrev pub number_of_kind : Kind → ℕ
number_of_kind Rook = 1
number_of_kind Bishop = 2
number_of_kind Queen = 3
number_of_kind Pawn = 4
number_of_kind Knight = 5
number_of_kind King = 6

abbrev pub number_of_piece : Piece → ℕ
number_of_piece x = number_of_kind x.kind + (if same_colour x.colour Black then 8 else 0)

-- The numbers of the squares that follow a run of n empty ones. The first square of a run has 16,
-- the next one 17, and so on.
abbrev pub numbers : ℕ → Board → List ℕ
numbers n [] = []
numbers n (None ∷ cells) = (16 + n) ∷ numbers (n + 1) cells
numbers n (Some x ∷ cells) = number_of_piece x ∷ numbers 0 cells

-- the word with these bytes, from the lowest on
abbrev pub word_of_bytes : List ℕ → ℕ
word_of_bytes [] = 0
word_of_bytes (byte ∷ bytes) = byte + 256 * word_of_bytes bytes

-- the numbers of the squares of a rank, from file a on
abbrev pub rank_numbers : Board → ℕ → ℕ
rank_numbers b rank = word_of_bytes (numbers 0 (map (λ file. at b (square file rank)) lines))

-- The two tables.

-- the n lowest bits of a number, a byte for each
abbrev pub bytes_of_bits : ℕ → ℕ → ℕ
bytes_of_bits zero bits = 0
bytes_of_bits (suc n) bits = bits % 2 + 256 * bytes_of_bits n (bits / 2)

-- For the n lowest bits of a number, after a run of bits that are not set: the numbers of the bits
-- that are not set, and 0 for each that is.
abbrev pub bytes_of_runs : ℕ → ℕ → ℕ → ℕ
bytes_of_runs zero run bits = 0
bytes_of_runs (suc n) run bits =
    if bits % 2 == 0 then 16 + run + 256 * bytes_of_runs n (run + 1) (bits / 2) else 256 * bytes_of_runs n 0 (bits / 2)
