-- **Bookkeeping**: which moves `LegalMoves` tries, and in which order. No rule of play rests on it.
-- Letters: p is a position, s an origin, t a target, m a move.
use Rattle.std.specs.Prelude.{Bool, ◌&&◌, not, List, [], ◌∷◌, ◌++◌, Option, None, Some, filter, map, if◌then◌else◌}
use Rattle.std.specs.List.{flat_map}
use Rattle.chess_rules.specs.declared.legal_moves.Tries.{Tries}
use Rattle.chess_rules.specs.declared.piece.Kind.TheVariants.{Knight}
use Rattle.chess_rules.specs.declared.piece.Promotion.{Promotion}
use Rattle.chess_rules.specs.declared.piece.Promotion.TheVariants.{Queen, Rook, Bishop}
use Rattle.chess_rules.specs.declared.piece.Promotion.TheVariants as promotions
use Rattle.chess_rules.specs.declared.position.Move.{Move}
use Rattle.chess_rules.specs.declared.position.Parts.{Parts}
use Rattle.chess_rules.specs.Square.{Square, squares, is_jump}
use Rattle.chess_rules.specs.Board.{at, has_colour}
use Rattle.chess_rules.specs.Attacks.{is_clear}
use Rattle.chess_rules.specs.Step.{own}
use Rattle.chess_rules.specs.Reach.{is_aligned}
use Rattle.chess_rules.specs.Pairs.{one_move}
use Rattle.chess_rules.specs.Words.{members}

-- A piece on s is tried on t: a knight if t is a jump away, and any other piece if it sees t. No
-- piece of the side to move is on t.
abbrev pub is_tried : Parts → Square → Square → Bool
is_tried p s t =
    (if own p Knight s then is_jump t s else (is_aligned t s && is_clear p.board t s)) && not (has_colour p.side (at p.board t))

-- what a pawn may become, from this on
abbrev pub promotions_from : Option Promotion → List (Option Promotion)
promotions_from None = None ∷ []
promotions_from (Some Queen) = Some Queen ∷ Some Rook ∷ Some Bishop ∷ Some promotions.Knight ∷ []
promotions_from (Some Rook) = Some Rook ∷ Some Bishop ∷ Some promotions.Knight ∷ []
promotions_from (Some Bishop) = Some Bishop ∷ Some promotions.Knight ∷ []
promotions_from (Some promotions.Knight) = Some promotions.Knight ∷ []

-- the move, and those of its pair that are tried after it
unfoldable pub with_later : Move → List Move
with_later m = map (λ promotion. record { from = m.from; to = m.to; promotion = promotion }) (promotions_from m.promotion)

-- the pending move, and those of its pair that are tried after it
unfoldable pub pending_tries : Option Move → List Move
pending_tries None = []
pending_tries (Some m) = with_later m

-- the moves of one pair
unfoldable pub tries_to : Parts → Square → Square → List Move
tries_to p s t = with_later (one_move p s t)

-- the moves from one origin
unfoldable pub tries_from : Parts → Square → List Move
tries_from p s = flat_map (tries_to p s) (filter (is_tried p s) squares)

-- all moves that are still to be tried
unfoldable pub tries_left : Parts → Tries → List Move
tries_left p tries =
    pending_tries tries.pending ++ (flat_map (tries_to p tries.origin) (members tries.targets) ++ flat_map (tries_from p) (members tries.origins))
