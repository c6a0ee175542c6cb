-- A legal move is one of a piece of the side to move, so a mark can be computed by the moves of
-- these pieces alone.
use Rattle.chess_text.proofs.Words.{◌≡◌, ℕ, Bool, true, ◌&&◌, not, inl, inr, List, [], ◌∷◌, ◌++◌, ap, Option, None, Some, codes, if◌then◌else◌, list_any, or_cases, Move, Parts, Square, squares, at, has_colour, every_promotion, is_check, is_legal, legal, mark, san, unmarked, arith, rules}
use Rattle.chess_text.proofs.forms.MoverOfMove.{mover_colour}
use Rattle.chess_text.proofs.names.OneMoveAgrees.{any-same}

-- some move from the square is legal, or some one to that target
abbrev has_move_to : Parts → Square → Square → Bool
has_move_to p from to = list_any (λ promotion. is_legal p (record { from = from; to = to; promotion = promotion })) every_promotion

abbrev has_move_from : Parts → Square → Bool
has_move_from p from = list_any (has_move_to p from) squares

-- the same, with no trial of a move unless a piece of the side to move is there
abbrev piece_has_move : Parts → Square → Bool
piece_has_move p from = has_colour p.side (at p.board from) && has_move_from p from

if_any : {X P : Type 0} (test : X → Bool) (xs : List X) → ((x : X) → test x ≡ true → P) → list_any test xs ≡ true → P
if_any test [] found h = cc
if_any test (x ∷ xs) found h =
    elim (or_cases (test x) (list_any test xs) h) [ inl here ↦ found x here | inr later ↦ if_any test xs found later ]

from_piece : (p : Parts) (from : Square) → has_move_from p from ≡ piece_has_move p from
from_piece p from =
    only_if (has_colour p.side (at p.board from)) (has_move_from p from)
    (if_any (has_move_to p from) squares (λ to.
    if_any (λ promotion. is_legal p (record { from = from; to = to; promotion = promotion })) every_promotion
    (λ promotion. mover_colour p (record { from = from; to = to; promotion = promotion }))))
  where
    only_if : (x y : Bool) → (y ≡ true → x ≡ true) → y ≡ (x && y)
    only_if x y h = grind arith

-- the mark, by these moves
abbrev mark_tried : Option Parts → List ℕ
mark_tried None = []
mark_tried (Some q) = if is_check q && not (list_any (piece_has_move q) squares) then codes "#" else if is_check q then codes "+" else []

pub mark_is_tried : (o : Option Parts) → mark o ≡ mark_tried o
mark_is_tried o = search (rules, codes, any-same, from_piece)

abbrev pub san_tried : Parts → Move → List ℕ
san_tried p m = unmarked p m ++ mark_tried (legal p m)

pub san_is_tried : (p : Parts) (m : Move) → san p m ≡ san_tried p m
san_is_tried p m = ap (λ s. unmarked p m ++ s) (mark_is_tried (legal p m))
