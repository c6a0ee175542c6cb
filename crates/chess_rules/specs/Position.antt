-- **Definition**: what a position is, and the first one.
-- (FIDE 2.2, 2.3, 3.7.3.3, 3.9.2; PGN 16.1.3)
use Rattle.std.specs.Prelude.{ℕ, Result, Ok, Err, Bool, true, ◌&&◌, ◌||◌, not, Option, None, Some, length, ◌==◌, nat_le, if◌then◌else◌, is_none, List, [], ◌∷◌, ◌++◌, map, replicate}
use Rattle.std.specs.List.{list_any}
use Rattle.chess_rules.specs.declared.piece.Colour.{Colour}
use Rattle.chess_rules.specs.declared.piece.Colour.TheVariants.{White, Black}
use Rattle.chess_rules.specs.declared.piece.Kind.{Kind}
use Rattle.chess_rules.specs.declared.piece.Kind.TheVariants.{King, Queen, Rook, Bishop, Knight, Pawn}
use Rattle.chess_rules.specs.declared.position.Parts.{Parts}
use Rattle.chess_rules.specs.declared.position.Rights.{Rights}
use Rattle.chess_rules.specs.declared.position.PositionFault.{PositionFault}
use Rattle.chess_rules.specs.declared.position.PositionFault.TheVariants.{Kings, PawnOnEdge, KingCapturable, TargetRank, NumberRange}
use Rattle.chess_rules.specs.Square.{Square, squares, on_board}
use Rattle.chess_rules.specs.Board.{Board, at, other, kings, some_piece, is_pawn}
use Rattle.chess_rules.specs.Attacks.{king_attacked}

-- the colour has exactly one king (FIDE 2.2)
abbrev pub one_king : Board → Colour → Bool
one_king b c = kings c b == 1

-- a pawn is on rank 1 or 8, on which pawns are promoted (FIDE 3.7.3.3)
abbrev pub pawn_on_edge : Board → Bool
pawn_on_edge b =
    list_any (λ s. ((s.rank == 0) || (s.rank == 7)) && is_pawn (at b s)) squares

-- the en passant target is on rank 6 with White to move, on rank 3 with Black to move (PGN
-- 16.1.3.4)
abbrev pub target_rank : Colour → ℕ
target_rank White = 5
target_rank Black = 2

-- there is no en passant target, or it is on that rank
abbrev pub target_fits : Colour → Option Square → Bool
target_fits c None = true
target_fits c (Some t) = on_board t && (t.rank == target_rank c)

-- the first rule that the parts break, in the order of the faults
abbrev pub position_fault : Parts → Option PositionFault
position_fault p =
    if not (one_king p.board White && one_king p.board Black) then Some Kings
    else if pawn_on_edge p.board then Some PawnOnEdge
    else if king_attacked p.board (other p.side) then Some KingCapturable
    else if not (target_fits p.side p.target) then Some TargetRank
    else if not (nat_le p.half 99999 && nat_le p.full 99999) then Some NumberRange
    else None

-- Parts that break no rule are a position. A board has 64 cells; the parts of a program always
-- have as many.
abbrev pub is_position : Parts → Bool
is_position p = (length p.board == 64) && is_none (position_fault p)

-- the position of the parts, or the fault
abbrev pub built_unless : Option PositionFault → Parts → Result Parts PositionFault
built_unless None p = Ok p
built_unless (Some fault) p = Err fault

abbrev pub built : Parts → Result Parts PositionFault
built p = built_unless (position_fault p) p

-- The first position. (FIDE 2.3)

-- from file a to file h
abbrev pub back_rank : List Kind
back_rank = Rook ∷ Knight ∷ Bishop ∷ Queen ∷ King ∷ Bishop ∷ Knight ∷ Rook ∷ []

abbrev pub initial_board : Board
initial_board =
    map (some_piece White) back_rank ++ replicate 8 (some_piece White Pawn)
    ++ replicate 32 None
    ++ replicate 8 (some_piece Black Pawn) ++ map (some_piece Black) back_rank

abbrev pub every_right : Rights
every_right = record { white_short = true; white_long = true; black_short = true; black_long = true }

abbrev pub initial : Parts
initial = record { board = initial_board; side = White; rights = every_right; target = None; half = 0; full = 1 }
