-- **Bookkeeping**: which pairs of an origin and a target the code tries, mostly target by target,
-- and which targets may meet an attack.
-- No rule of play rests on it. Letters: p is a position, s an origin, t a target.
use Rattle.std.specs.Prelude.{◌≡◌, ◌<◌, ◌≤◌, ℕ, ◌+◌, Bool, true, false, ◌&&◌, ◌||◌, not, None, Some, filter, length, ◌==◌, if◌then◌else◌}
use Rattle.std.specs.List.{list_any}
use Rattle.chess_rules.specs.declared.piece.Kind.TheVariants.{King, Knight, Pawn}
use Rattle.chess_rules.specs.declared.piece.Promotion.TheVariants as promotions
use Rattle.chess_rules.specs.declared.position.Move.{Move}
use Rattle.chess_rules.specs.declared.position.Parts.{Parts}
use Rattle.chess_rules.specs.declared.piece.Colour.{Colour}
use Rattle.chess_rules.specs.Square.{Square, squares, is_adjacent, is_jump, strictly_between}
use Rattle.chess_rules.specs.Board.{Board, at, cell_of, has_colour}
use Rattle.chess_rules.specs.Attacks.{attacks, is_attacked, is_clear}
use Rattle.chess_rules.specs.Step.{own, last_rank}
use Rattle.chess_rules.specs.Legal.{is_legal}
use Rattle.chess_rules.specs.Reach.{is_aligned, king_square}
use Rattle.chess_rules.specs.Words.{has}

-- One pair.

-- The move of a pair. A pawn that reaches the last rank becomes a queen: all four promotions are
-- legal, or none.
abbrev pub one_move : Parts → Square → Square → Move
one_move p s t =
    record { from = s; to = t; promotion = if (t.rank == last_rank p.side) && own p Pawn s then Some promotions.Queen else None }

unfoldable pub is_legal_pair : Parts → Square → Square → Bool
is_legal_pair p s t = is_legal p (one_move p s t)

-- All pairs: the king's steps that are tried first, and then the others from target to target.

-- a single step of the king leads to t, and no piece of its side is there
abbrev pub is_king_step : Parts → Square → Bool
is_king_step p t = is_adjacent t (king_square p.side p.board) && not (has_colour p.side (at p.board t))

-- The piece on s is of the side to move and no knight. It is on a line with t, and all squares
-- between are empty. It is not the king, if its step to t was tried.
abbrev pub is_untried_aligned : Parts → Square → Square → Bool
is_untried_aligned p t s =
    (((has_colour p.side (at p.board s) && not (own p Knight s)) && is_aligned s t) && not (is_king_step p t && own p King s))
    && is_clear p.board s t

-- the piece on s is still to be tried for t
abbrev pub is_untried : Parts → Square → Square → Bool
is_untried p t s = (own p Knight s && is_jump s t) || is_untried_aligned p t s

unfoldable pub has_king_step : Parts → Bool
has_king_step p = list_any (is_legal_pair p (king_square p.side p.board)) (filter (is_king_step p) squares)

unfoldable pub count_king_steps : Parts → ℕ
count_king_steps p = length (filter (is_king_step p) squares)

unfoldable pub has_untried_move : Parts → Square → Bool
has_untried_move p t = list_any (λ s. is_legal_pair p s t) (filter (is_untried p t) squares)

unfoldable pub count_untried : Parts → Square → ℕ
count_untried p t = length (filter (is_untried p t) squares)

-- The targets that may meet an attack on t by pieces of the colour c.

-- one of the attackers is in the set, and all squares between it and t are
pub record HasAttacker (b : Board) (c : Colour) (t : Square) (set : ℕ) : Type 0 where
  pub from : Square
  pub file : from.file < 8
  pub rank : from.rank < 8
  pub attacks : (has_colour c (at b from) && attacks b from t) ≡ true
  pub here : has set (cell_of from) ≡ true
  pub way : (u : Square) → u.file < 8 → u.rank < 8 → strictly_between from u t ≡ true → has set (cell_of u) ≡ true

abbrev pub MeetsAttack : Board → Colour → Square → ℕ → Type 0
MeetsAttack b c t set = is_attacked b c t ≡ true → HasAttacker b c t set

-- What a search among `whole` pairs adds to the count: `whole` if no pair is legal, and else at
-- least 1 and at most `whole`.
pub record Counts (found : Bool) (old new whole : ℕ) : Type 0 where
  pub rises : old ≤ new
  pub most : new ≤ old + whole
  pub all : found ≡ false → new ≡ old + whole
  pub some : found ≡ true → old < new
