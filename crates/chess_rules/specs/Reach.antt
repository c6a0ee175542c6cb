-- **Bookkeeping**: squares by their indices, what a piece reaches on an empty board, and the king's
-- square. No rule of play rests on it.
-- Letters: b is a board, c a colour, k a kind, s, t and u are squares.
use Rattle.std.specs.Prelude.{◌≡◌, ◌<◌, ℕ, ◌+◌, ◌/◌, ◌%◌, Bool, true, false, ◌&&◌, ◌||◌, not, Option, None, Some, position, unwrap_or, ◌==◌}
use Rattle.chess_rules.specs.declared.piece.Colour.{Colour}
use Rattle.chess_rules.specs.declared.piece.Kind.{Kind}
use Rattle.chess_rules.specs.declared.piece.Kind.TheVariants.{King, Queen, Rook, Bishop, Knight, Pawn}
use Rattle.chess_rules.specs.declared.piece.Piece.{Piece}
use Rattle.chess_rules.specs.Square.{Square, square, gap, inside, is_adjacent, is_jump, in_line, on_diagonal, strictly_between}
use Rattle.chess_rules.specs.Board.{Board, at, cell_of, has_colour, has_piece, same_kind}
use Rattle.chess_rules.specs.Attacks.{is_ahead}

-- the square with index i: 0 for a1, 1 for b1, and so on, rank by rank, to 63 for h8
abbrev pub square_at : ℕ → Square
square_at i = square (i % 8) (i / 8)

-- s and t are two squares of one rank, file or diagonal
abbrev pub is_aligned : Square → Square → Bool
is_aligned s t = in_line s t || on_diagonal s t

-- s and t are on one file, or on one diagonal that rises to the right
abbrev pub is_steep : Square → Square → Bool
is_steep s t = (s.file == t.file) || (s.file + t.rank == t.file + s.rank)

-- The squares that pass are a line through t, without t: a square is strictly between t and one of
-- them exactly if it passes and its index is between theirs.
pub record IsLine (line : Square → Bool) (t : Square) : Type 0 where
  pub apart : line t ≡ false
  pub between : (s u : Square) → s.file < 8 → s.rank < 8 → u.file < 8 → u.rank < 8 → line s ≡ true
      → strictly_between s u t ≡ (line u && inside (cell_of s) (cell_of u) (cell_of t))

-- a piece of the kind and colour would attack t from s, were all squares between empty
abbrev pub reaches : Kind → Colour → Square → Square → Bool
reaches King c s t = is_adjacent s t
reaches Queen c s t = is_aligned s t
reaches Rook c s t = in_line s t
reaches Bishop c s t = on_diagonal s t
reaches Knight c s t = is_jump s t
reaches Pawn c s t = (gap s.file t.file == 1) && is_ahead c s.rank t.rank

-- the content is a piece, which would attack t from s, were all squares between empty
abbrev pub reaches_from : Option Piece → Square → Square → Bool
reaches_from None s t = false
reaches_from (Some x) s t = reaches x.kind x.colour s t

-- a piece of the kind is there, of either colour
abbrev pub has_kind : Kind → Option Piece → Bool
has_kind k None = false
has_kind k (Some x) = same_kind k x.kind

-- a piece that does not slide is there
abbrev pub is_near : Option Piece → Bool
is_near cell = has_kind King cell || (has_kind Knight cell || has_kind Pawn cell)

-- a piece of the colour is on s, and would attack t, were all squares between empty
abbrev pub may_attack : Board → Colour → Square → Square → Bool
may_attack b c t s = has_colour c (at b s) && reaches_from (at b s) s t

-- the same for a rook, a bishop or a queen alone
abbrev pub slides : Board → Colour → Square → Square → Bool
slides b c t s = may_attack b c t s && not (is_near (at b s))

-- a piece of the kind would see t from s, were all squares between empty
abbrev pub may_see : Kind → Square → Square → Bool
may_see Knight s t = is_jump s t
may_see _ s t = is_aligned s t

-- the first square with a king of the colour, or a1 if there is none
abbrev pub king_square : Colour → Board → Square
king_square c b = square_at (unwrap_or (position (has_piece c King) b) 0)
