-- **Definition**: legal moves, check and mate (FIDE 3.9, 3.10.1, 1.4.1).
use Rattle.std.specs.Prelude.{Bool, ◌&&◌, not, List, [], ◌∷◌, Option, None, Some, is_some, if◌then◌else◌}
use Rattle.std.specs.List.{list_any}
use Rattle.chess_rules.specs.declared.piece.Promotion.{Promotion}
use Rattle.chess_rules.specs.declared.piece.Promotion.TheVariants.{Queen, Rook, Bishop, Knight}
use Rattle.chess_rules.specs.declared.position.Move.{Move}
use Rattle.chess_rules.specs.declared.position.Parts.{Parts}
use Rattle.chess_rules.specs.Square.{squares}
use Rattle.chess_rules.specs.Board.{other}
use Rattle.chess_rules.specs.Attacks.{king_attacked}
use Rattle.chess_rules.specs.Step.{step}

-- The king of the side that moved is not attacked. q is the position after a step, so the other
-- side is to move in it.
abbrev pub king_is_safe : Parts → Bool
king_is_safe q = not (king_attacked q.board (other q.side))

abbrev pub if_safe : Option Parts → Option Parts
if_safe None = None
if_safe (Some q) = if king_is_safe q then Some q else None

-- the position after m, if m is legal (FIDE 3.9.2, 3.10.1)
abbrev pub legal : Parts → Move → Option Parts
legal p m = if_safe (step p m)

-- the move is legal
abbrev pub is_legal : Parts → Move → Bool
is_legal p m = is_some (legal p m)

-- the king of the side to move is attacked (FIDE 3.9.1)
abbrev pub is_check : Parts → Bool
is_check p = king_attacked p.board p.side

-- no promotion, or one to each kind
abbrev pub every_promotion : List (Option Promotion)
every_promotion = None ∷ Some Queen ∷ Some Rook ∷ Some Bishop ∷ Some Knight ∷ []

-- some origin, target and promotion make a legal move
abbrev pub has_legal_move : Parts → Bool
has_legal_move p =
    list_any (λ from. list_any (λ to. list_any (λ promotion.
    is_legal p (record { from = from; to = to; promotion = promotion })) every_promotion) squares) squares

-- the king of the side to move is attacked, and no move is legal (FIDE 1.4, 1.4.1, 5.1.1)
abbrev pub is_mate : Parts → Bool
is_mate p = is_check p && not (has_legal_move p)
