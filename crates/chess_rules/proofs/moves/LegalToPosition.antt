-- A legal move leaves a position, and the kings where they are said to be.
use Rattle.chess_rules.proofs.Words.{Colour, King, Move, Parts, Square, on_board, same_square, Board, at, other, has_colour, is_attacked, king_attacked, is_position, target_fits, is_on_board, short_right, long_right, short_wing, long_wing, board_after, after, target_after, half_after, full_after, legal, if_safe, is_legal, king_square, LeavesPosition, ◌≡◌, ℕ, ◌≤◌, Bool, true, false, not, refl, sym, ◌∙◌, ap, subst, arith, nat_lt, Option, None, Some, option_map, if◌then◌else◌, false_from_ne_true, Rights, square, cell_of, keeps, rights_after, has, ◌&&◌, ltb-true}
use Rattle.chess_rules.proofs.moves.WaysToStep.{piece_step_means, pawn_step_means, passing_means, castles_means, way_of, by_piece, by_pawn, by_passing, by_short, by_long}
use Rattle.chess_rules.proofs.sets.AllSquares.{first_true, second_true}
use Rattle.chess_rules.proofs.lines.AttackToReach.{squares_same, other-other}
use Rattle.chess_rules.proofs.positions.OneKing.{king_stands, king_only_there, king_attacked_there}
use Rattle.chess_rules.proofs.moves.CellsAfterPut.{OnBoard}
use Rattle.chess_rules.proofs.positions.RulesOfPosition.{Sound, sound_from_position, position_from_sound, no_pawn_on_edge, king_of}
use Rattle.chess_rules.proofs.moves.BoardAfterMove.{Stays, carried_stays, king_after}
use Rattle.chess_rules.proofs.moves.StepsKeepBoard.{not_both, colour_of_piece, piece_lands, pawn_lands, passing_stays, castling_stays, short_is_wing, long_is_wing}

pub on_board_means : (s : Square) → on_board s ≡ true → OnBoard s
on_board_means s h =
    record { file = ltb-true s.file 8 (first_true (nat_lt s.file 8) _ h); rank = ltb-true s.rank 8 (second_true (nat_lt s.file 8) _ h) }

pub from_on : (m : Move) → is_on_board m ≡ true → OnBoard m.from
from_on m on = on_board_means m.from (first_true (on_board m.from) _ on)

pub to_on : (m : Move) → is_on_board m ≡ true → OnBoard m.to
to_on m on = on_board_means m.to (second_true (on_board m.from) _ on)

pub board_stays : (p : Parts) (m : Move) (b : Board) → Sound p → is_on_board m ≡ true → board_after p m ≡ Some b → Stays p m b
board_stays p m b sound on h =
    let from = from_on m on in
    let to = to_on m on in
    elim (way_of p m b h) [
      | by_piece w is ↦ subst (Stays p m) is (carried_stays p m sound (piece_lands p m sound from to (piece_step_means p m w)))
      | by_pawn w is ↦ subst (Stays p m) is (carried_stays p m sound (pawn_lands p m sound from to (pawn_step_means p m w)))
      | by_passing w is ↦ subst (Stays p m) is (passing_stays p m sound from to (passing_means p m w))
      | by_short w is ↦ subst (Stays p m) is
          (castling_stays p m short_wing sound short_is_wing from to (castles_means p m (short_right p.side p.rights) short_wing w))
      | by_long w is ↦ subst (Stays p m) is
          (castling_stays p m long_wing sound long_is_wing from to (castles_means p m (long_right p.side p.rights) long_wing w))
    ]

-- The target.

pub target_kept : (p : Parts) (m : Move) → is_on_board m ≡ true → target_fits (other p.side) (target_after p m) ≡ true
target_kept p m on = grind arith

-- The numbers.

half_low : (p : Parts) (m : Move) → half_after p m ≤ 99999
half_low p m = grind arith

full_low : (c : Colour) (n : ℕ) → n ≤ 99999 → full_after c n ≤ 99999
full_low c n h = grind arith

-- Together.

pub after_sound : (p : Parts) (m : Move) (b : Board) → Sound p → is_on_board m ≡ true
    → board_after p m ≡ Some b → king_attacked b (other (other p.side)) ≡ false → Sound (after p m b)
after_sound p m b sound on h safe =
    let stays : Stays p m b = board_stays p m b sound on h in
    record {
      long = stays.long;
      kings_of = stays.kings_of;
      edge = no_pawn_on_edge b stays.pawns;
      safe = safe;
      target = target_kept p m on;
      half = half_low p m;
      full = full_low p.side p.full sound.full;
    }

-- each king stands where the move leaves it
pub king_moves : (p : Parts) (m : Move) (b : Board) (c : Colour) → is_position p ≡ true → is_on_board m ≡ true
    → board_after p m ≡ Some b → king_after (king_square c p.board) m ≡ king_square c b
king_moves p m b c position on h =
    let sound : Sound p = sound_from_position p position in
    let stays : Stays p m b = board_stays p m b sound on h in
    king_only_there c b (king_after (king_square c p.board) m) (king_square c b) stays.long (stays.kings_of c)
    (stays.placed c (king_square c p.board) (king_of sound c))
    (king_stands c b stays.long (stays.kings_of c))

pub king_waits : (m : Move) (k : Square) → same_square m.from k ≡ false → king_after k m ≡ k
king_waits m k apart = grind arith

-- the other king stays where it is
module _ (p : Parts) (m : Move) (b : Board) where
  pub other_king_stays : is_position p ≡ true → is_on_board m ≡ true → board_after p m ≡ Some b
      → king_square (other p.side) p.board ≡ king_square (other p.side) b
  other_king_stays position on h = sym (king_waits m king apart) ∙ king_moves p m b (other p.side) position on h
    where
      sound : Sound p
      sound = sound_from_position p position

      king : Square
      king = king_square (other p.side) p.board

      apart : same_square m.from king ≡ false
      apart =
          false_from_ne_true (same_square m.from king) (λ same.
          not_both p.side (at p.board king)
          (subst (λ (s : Square). has_colour p.side (at p.board s) ≡ true) (squares_same m.from king same) (board_stays p m b sound on h).own)
          (colour_of_piece (other p.side) King (at p.board king) (king_of sound (other p.side)).king))

  -- whether a king is attacked is seen from its square
  pub king_seen : (c : Colour) → is_position p ≡ true → is_on_board m ≡ true → board_after p m ≡ Some b
      → king_attacked b c ≡ is_attacked b (other c) (king_square c b)
  king_seen c position on h =
      let stays : Stays p m b = board_stays p m b (sound_from_position p position) on h in
      king_attacked_there c b stays.long (stays.kings_of c)

  -- Legality of a step.

  pub legal_when : is_on_board m ≡ true → board_after p m ≡ Some b → king_attacked b (other (other p.side)) ≡ false → legal p m ≡ Some (after p m b)
  legal_when on h safe = grind arith

-- a legal move was a step to some board, and left the king safe
pub record Legal (p : Parts) (m : Move) (q : Parts) : Type 0 where
  pub on : is_on_board m ≡ true
  pub board : Board
  pub stepped : board_after p m ≡ Some board
  pub safe : king_attacked board (other (other p.side)) ≡ false
  pub next : after p m board ≡ q

pub legal_means : (p : Parts) (m : Move) (q : Parts) → legal p m ≡ Some q → Legal p m q
legal_means p m q h = by_on (is_on_board m) refl h
  where
    by_safe : (b : Board) → is_on_board m ≡ true → board_after p m ≡ Some b → (x : Bool)
        → king_attacked b (other (other p.side)) ≡ x → (if not x then Some (after p m b) else None) ≡ Some q → Legal p m q
    by_safe b on stepped x e g = grind arith

    by_board : is_on_board m ≡ true → (o : Option Board) → board_after p m ≡ o
        → if_safe (option_map (after p m) o) ≡ Some q → Legal p m q
    by_board on None e g = cc
    by_board on (Some b) e g = by_safe b on e (king_attacked b (other (other p.side))) refl g

    by_on : (x : Bool) → is_on_board m ≡ x → if_safe (if x then option_map (after p m) (board_after p m) else None) ≡ Some q → Legal p m q
    by_on true e g = by_board e (board_after p m) refl g
    by_on false e g = cc

pub leaves_position : LeavesPosition
leaves_position p q m position h =
    let l : Legal p m q = legal_means p m q h in
    subst (λ (r : Parts). is_position r ≡ true) l.next
    (position_from_sound (after p m l.board) (after_sound p m l.board (sound_from_position p position) l.on l.stepped l.safe))

module _ (p : Parts) (m : Move) (b : Board) where
  pub position_after : is_position p ≡ true → is_on_board m ≡ true → board_after p m ≡ Some b → king_attacked b (other (other p.side)) ≡ false
      → is_position (after p m b) ≡ true
  position_after position on h safe = position_from_sound (after p m b) (after_sound p m b (sound_from_position p position) on h safe)

  -- a step is legal exactly if the king is not attacked then, seen from its square
  pub legal_unless_attacked : (attacked : Bool) → is_position p ≡ true → is_on_board m ≡ true → board_after p m ≡ Some b
      → attacked ≡ is_attacked b (other p.side) (king_square p.side b) → not attacked ≡ is_legal p m
  legal_unless_attacked attacked position on h e =
      by_test attacked (ap (king_attacked b) (other-other p.side) ∙ (king_seen p m b p.side position on h ∙ sym e))
    where
      by_test : (x : Bool) → king_attacked b (other (other p.side)) ≡ x → not x ≡ is_legal p m
      by_test x is = grind arith

-- A move that begins and ends on no square of a king or a rook at the start keeps every right.

-- a1, e1, h1, a8, e8, h8
abbrev pub homes : ℕ
homes = 10448351135499550865

kept : (x y : Bool) → y ≡ true → x ≡ (x && y)
kept x y e = grind arith

keeps_rank : (m : Move) (file rank : ℕ) → has homes (cell_of (square 4 rank)) ≡ true → has homes (cell_of (square file rank)) ≡ true
    → has homes (cell_of m.from) ≡ false → has homes (cell_of m.to) ≡ false → keeps m file rank ≡ true
keeps_rank m file rank king rook from to = grind arith

pub rights_stay : (m : Move) (r : Rights) → has homes (cell_of m.from) ≡ false → has homes (cell_of m.to) ≡ false → r ≡ rights_after m r
unfolding has
rights_stay m r from to = grind (arith, kept, keeps_rank)
