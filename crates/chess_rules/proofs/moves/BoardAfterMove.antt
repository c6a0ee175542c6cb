-- What a move leaves on the board: one king of each colour, where it was or where it moved, and no
-- pawn on rank 1 or 8.
use Rattle.chess_rules.proofs.Words.{Colour, King, Piece, Move, Parts, Square, same_square, Board, at, put, kings, has_colour, has_piece, is_pawn, promoted, carried, ◌≡◌, ◌≢◌, ℕ, ◌+◌, Bool, true, false, inl, inr, refl, sym, ◌∙◌, ap, subst, arith, length, cond, Option, None, if◌then◌else◌, common_steps}
use Rattle.chess_rules.proofs.lines.AttackToReach.{squares_same}
use Rattle.chess_rules.proofs.positions.OneKing.{StandsAt}
use Rattle.chess_rules.proofs.moves.CellsAfterPut.{OnBoard, at_put, at_put_here, length-put, king_count, kings-put, kings-put_alike, at_moved, on_target, on_origin, on_other}
use Rattle.chess_rules.proofs.positions.RulesOfPosition.{Sound, is_edge, no_pawn_there, same_square-refl}

abbrev pub arriving : Parts → Move → Option Piece
arriving p m = promoted p.side m.promotion (at p.board m.from)

-- where a king stands after a move that may be its own
abbrev pub king_after : Square → Move → Square
king_after k m = if same_square m.from k then m.to else k

-- a piece of the side to move leaves; no king stands on the target; a king arrives exactly if one
-- leaves; no pawn arrives on rank 1 or 8
pub record Lands (p : Parts) (m : Move) : Type 0 where
  pub own : has_colour p.side (at p.board m.from) ≡ true
  pub on_from : OnBoard m.from
  pub on_to : OnBoard m.to
  pub free : (c : Colour) → has_piece c King (at p.board m.to) ≡ false
  pub alike : (c : Colour) → has_piece c King (arriving p m) ≡ has_piece c King (at p.board m.from)
  pub no_pawn : is_edge m.to.rank ≡ true → is_pawn (arriving p m) ≡ false

pub record Stays (p : Parts) (m : Move) (b : Board) : Type 0 where
  pub own : has_colour p.side (at p.board m.from) ≡ true
  pub long : length b ≡ 64
  pub kings_of : (c : Colour) → kings c b ≡ 1
  pub pawns : (u : Square) → OnBoard u → is_edge u.rank ≡ true → is_pawn (at b u) ≡ false
  pub placed : (c : Colour) (k : Square) → StandsAt c p.board k → StandsAt c b (king_after k m)

count_none : (c : Colour) (cell : Option Piece) → has_piece c King cell ≡ false → king_count c cell ≡ 0
count_none c cell h = ap (λ v. cond v 1 0) h

pub carried_stays : (p : Parts) (m : Move) → Sound p → Lands p m → Stays p m (carried p m)
carried_stays p m sound lands =
    record {
      own = lands.own;
      long = length-put left m.to (arriving p m) ∙ left_long;
      kings_of = kings_kept;
      pawns = no_pawns;
      placed = λ c k stands. by_own c k stands (same_square m.from k) refl;
    }
  where
    left : Board
    left = put p.board m.from None

    left_long : length (put p.board m.from None) ≡ 64
    left_long = length-put p.board m.from None ∙ sound.long

    left_free : (c : Colour) → king_count c (at (put p.board m.from None) m.to) ≡ 0
    left_free c =
        elim (at_put p.board m.from m.to None sound.long lands.on_from lands.on_to) [
          | inl here ↦ ap (king_count c) here.1
          | inr there ↦ ap (king_count c) there.1 ∙ count_none c (at p.board m.to) (lands.free c)
        ]

    kings_kept : (c : Colour) → kings c (carried p m) ≡ 1
    kings_kept c =
        sum_of _ _ _ _ _ _ (kings-put c p.board m.from None sound.long lands.on_from)
        (kings-put c (put p.board m.from None) m.to (arriving p m) left_long lands.on_to)
        (left_free c) (ap (λ v. cond v 1 0) (lands.alike c)) (sound.kings_of c)
      where
        sum_of : (k l n i j o : ℕ) → l + i ≡ k + 0 → n + o ≡ l + j → o ≡ 0 → j ≡ i → k ≡ 1 → n ≡ 1
        sum_of k l n i j o a b d e f = omega arith

    no_pawns : (u : Square) → OnBoard u → is_edge u.rank ≡ true → is_pawn (at (carried p m) u) ≡ false
    no_pawns u on edge =
        elim (at_moved p.board m.from m.to u (arriving p m) sound.long lands.on_from lands.on_to on) [
          | on_target is here ↦ ap is_pawn here ∙ lands.no_pawn (subst (λ (s : Square). is_edge s.rank ≡ true) is edge)
          | on_origin _ none ↦ ap is_pawn none
          | on_other _ _ same ↦ ap is_pawn same ∙ no_pawn_there p.board sound.edge u on edge
        ]

    by_own : (c : Colour) (k : Square) → StandsAt c p.board k → (x : Bool)
        → same_square m.from k ≡ x → StandsAt c (carried p m) (if x then m.to else k)
    by_own c k stands true same =
        record {
          file = lands.on_to.file;
          rank = lands.on_to.rank;
          king = ap (has_piece c King) (at_put_here (put p.board m.from None) m.to (arriving p m) left_long lands.on_to)
              ∙ (lands.alike c
              ∙ subst (λ (s : Square). has_piece c King (at p.board s) ≡ true) (sym (squares_same m.from k same)) stands.king);
        }
    by_own c k stands false differ =
        record {
          file = stands.file;
          rank = stands.rank;
          king = elim (at_moved p.board m.from m.to k (arriving p m) sound.long lands.on_from lands.on_to
              (record { file = stands.file; rank = stands.rank })) [
                | on_target is _ ↦ cc (lands.free c, subst (λ (s : Square). has_piece c King (at p.board s) ≡ true) is stands.king)
                | on_origin is _ ↦ cc (differ, subst (λ (s : Square). same_square s k ≡ true) is (same_square-refl k))
                | on_other _ _ same ↦ ap (has_piece c King) same ∙ stands.king
              ];
        }

-- neither a king nor a pawn
pub record IsPlain (cell : Option Piece) : Type 0 where
  pub no_king : (c : Colour) → has_piece c King cell ≡ false
  pub no_pawn : is_pawn cell ≡ false

-- a square without a king may be emptied or get a piece that is neither king nor pawn
pub put_stays : (p : Parts) (m : Move) (b : Board) (s : Square) (x : Option Piece) → Stays p m b → OnBoard s
    → ((c : Colour) → has_piece c King (at b s) ≡ false) → IsPlain x → Stays p m (put b s x)
put_stays p m b s x stays on free plain =
    record {
      own = stays.own;
      long = length-put b s x ∙ stays.long;
      kings_of = λ c.
          kings-put_alike c b s x stays.long on (count_none c (at b s) (free c) ∙ sym (count_none c x (plain.no_king c))) ∙ stays.kings_of c;
      pawns = λ u on_u edge.
          elim (at_put b s u x stays.long on on_u) [
            | inl here ↦ ap is_pawn here.1 ∙ plain.no_pawn
            | inr there ↦ ap is_pawn there.1 ∙ stays.pawns u on_u edge
          ];
      placed = λ c k stands. there_still c (king_after k m) (stays.placed c k stands);
    }
  where
    there_still : (c : Colour) (k : Square) → StandsAt c b k → StandsAt c (put b s x) k
    there_still c k stands = grind (arith, common_steps, at_put)

-- a square but the target that had no king has none
pub carried_free : (p : Parts) (m : Move) → Sound p → Lands p m → (u : Square) → OnBoard u → u ≢ m.to
    → ((c : Colour) → has_piece c King (at p.board u) ≡ false) → (c : Colour) → has_piece c King (at (carried p m) u) ≡ false
carried_free p m sound lands u on apart free c = grind (arith, common_steps, at_moved, on_target, on_origin)
