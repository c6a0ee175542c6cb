-- **Bookkeeping**: the two squares from which a pawn may take en passant, as the code tries them.
-- Letters: r is the rank of these squares, f a file, t the target.
use Rattle.std.specs.Prelude.{ℕ, zero, suc, ◌+◌, Bool, false, ◌&&◌, Option, None, Some, nat_lt, if◌then◌else◌}
use Rattle.chess_rules.specs.declared.piece.Colour.{Colour}
use Rattle.chess_rules.specs.declared.piece.Colour.TheVariants.{White, Black}
use Rattle.chess_rules.specs.declared.piece.Kind.TheVariants.{Pawn}
use Rattle.chess_rules.specs.declared.position.Parts.{Parts}
use Rattle.chess_rules.specs.Square.{Square, square}
use Rattle.chess_rules.specs.Step.{own}
use Rattle.chess_text.specs.Key.{takes_en_passant, move_to}

-- the rank from which pawns of the colour go to this one, if there is one
abbrev pub rank_behind : Colour → ℕ → Option ℕ
rank_behind White zero = None
rank_behind White (suc n) = Some n
rank_behind Black n = Some (n + 1)

-- the square is on the board, and a pawn of the side to move is there
abbrev pub stands_on : Parts → ℕ → ℕ → Bool
stands_on p r f = nat_lt f 8 && nat_lt r 8 && own p Pawn (square f r)

-- the square is on the board, and a legal move from it takes en passant on t
abbrev pub takes_from : Parts → Square → ℕ → ℕ → Bool
takes_from p t r f = nat_lt f 8 && nat_lt r 8 && takes_en_passant p (move_to t (square f r))

-- a test of the file to the west, if there is one
abbrev pub west_of : (ℕ → Bool) → ℕ → Bool
west_of test zero = false
west_of test (suc n) = test n

-- a pair that is tried or not
abbrev pub one_if : Bool → ℕ
one_if b = if b then 1 else 0
