-- **Definition**: where a piece of a kind is looked for, when a legal move to a square is sought.
-- No standard has this: it is our own way to find moves, and a law says that it misses none.
-- Letters: p is a position, k a kind of piece, s an origin, t a target.
use Rattle.std.specs.Prelude.{ℕ, Bool, ◌&&◌, ◌||◌, List, [], ◌∷◌, Option, None, Some, filter, length, sum_by}
use Rattle.chess_rules.specs.declared.piece.Kind.{Kind}
use Rattle.chess_rules.specs.declared.piece.Kind.TheVariants.{King, Queen, Rook, Bishop, Knight, Pawn}
use Rattle.chess_rules.specs.declared.position.Parts.{Parts}
use Rattle.chess_rules.specs.Square.{Square, squares, is_jump, in_line, on_diagonal}
use Rattle.chess_rules.specs.Attacks.{is_clear}
use Rattle.chess_rules.specs.Step.{own}

-- Only a knight's own way of moving counts: a bishop on the file of t is a candidate too. So a
-- knight is a jump away; another piece is on a rank, a file or a diagonal with t, and all squares
-- between are empty
abbrev pub sees : Kind → Parts → Square → Square → Bool
sees Knight p s t = is_jump s t
sees _ p s t = (in_line s t || on_diagonal s t) && is_clear p.board s t

-- a piece of the kind, of the side to move, is on s and sees t
abbrev pub is_candidate : Parts → Kind → Square → Square → Bool
is_candidate p k t s = own p k s && sees k p s t

-- all candidates of a kind for a target
abbrev pub candidates : Parts → Kind → Square → List Square
candidates p k t = filter (is_candidate p k t) squares

-- the square of a list that has exactly one, and else nothing
abbrev pub lone : List Square → Option Square
lone (s ∷ []) = Some s
lone _ = None

abbrev pub kinds : List Kind
kinds = King ∷ Queen ∷ Rook ∷ Bishop ∷ Knight ∷ Pawn ∷ []

-- how many candidates there are for all kinds and all targets together
unfoldable pub pair_count : Parts → ℕ
pair_count p = sum_by (λ t. sum_by (λ k. length (candidates p k t)) kinds) squares
