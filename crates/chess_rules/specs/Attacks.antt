-- **Definition**: which squares a piece attacks (FIDE 3.1 to 3.8).
use Rattle.std.specs.Prelude.{ℕ, ◌+◌, Bool, false, ◌&&◌, ◌||◌, not, Option, None, Some, ◌==◌}
use Rattle.std.specs.List.{list_all, list_any}
use Rattle.chess_rules.specs.declared.piece.Colour.{Colour}
use Rattle.chess_rules.specs.declared.piece.Colour.TheVariants.{White, Black}
use Rattle.chess_rules.specs.declared.piece.Kind.{Kind}
use Rattle.chess_rules.specs.declared.piece.Kind.TheVariants.{King, Queen, Rook, Bishop, Knight, Pawn}
use Rattle.chess_rules.specs.declared.piece.Piece.{Piece}
use Rattle.chess_rules.specs.Square.{Square, squares, gap, is_adjacent, is_jump, in_line, on_diagonal, strictly_between}
use Rattle.chess_rules.specs.Board.{Board, at, is_empty, other, has_colour, has_piece}

-- every square strictly between s and t is empty (FIDE 3.5)
abbrev pub is_clear : Board → Square → Square → Bool
is_clear b s t = list_all (λ u. not (strictly_between s u t) || is_empty b u) squares

-- the rank is the next one in the direction in which the colour's pawns go (FIDE 3.7.1)
abbrev pub is_ahead : Colour → ℕ → ℕ → Bool
is_ahead White rank ahead = ahead == rank + 1
is_ahead Black rank ahead = rank == ahead + 1

-- A piece of the kind and colour on s attacks t: king (FIDE 3.8.1), queen (3.4), rook
-- (3.3), bishop (3.2), knight (3.6), pawn (3.7.3).
abbrev pub kind_attacks : Kind → Colour → Board → Square → Square → Bool
kind_attacks King c b s t = is_adjacent s t
kind_attacks Queen c b s t = (in_line s t || on_diagonal s t) && is_clear b s t
kind_attacks Rook c b s t = in_line s t && is_clear b s t
kind_attacks Bishop c b s t = on_diagonal s t && is_clear b s t
kind_attacks Knight c b s t = is_jump s t
kind_attacks Pawn c b s t = (gap s.file t.file == 1) && is_ahead c s.rank t.rank

abbrev pub cell_attacks : Option Piece → Board → Square → Square → Bool
cell_attacks None b s t = false
cell_attacks (Some x) b s t = kind_attacks x.kind x.colour b s t

-- the piece on s attacks t, even if it may not move there, as a pinned piece (FIDE 3.1.2, 3.1.3)
abbrev pub attacks : Board → Square → Square → Bool
attacks b s t = cell_attacks (at b s) b s t

-- a piece of the colour attacks t
abbrev pub is_attacked : Board → Colour → Square → Bool
is_attacked b c t = list_any (λ s. has_colour c (at b s) && attacks b s t) squares

-- a king of the colour is attacked (FIDE 3.9.1)
abbrev pub king_attacked : Board → Colour → Bool
king_attacked b c = list_any (λ k. has_piece c King (at b k) && is_attacked b (other c) k) squares
