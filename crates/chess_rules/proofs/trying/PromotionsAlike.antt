-- Whether a pair is legal does not depend on what a pawn becomes: the piece that arrives is no king
-- and is there, whichever it is.
use Rattle.chess_rules.proofs.Words.{Colour, King, Pawn, Piece, Promotion, Move, Parts, Square, squares, Board, at, put, some_piece, other, has_colour, has_piece, is_clear, cell_attacks, attacks, king_attacked, is_position, own, last_rank, is_on_board, promotion_fits, short_right, long_right, short_wing, long_wing, kind_of, carried, en_passant_board, castled, board_after, after, legal, is_legal, if_safe, one_move, is_legal_pair, PromotionsAlike, ◌≡◌, ℕ, ◌<◌, Bool, true, false, not, ◌&&◌, refl, sym, ◌∙◌, ap, arith, length, Option, None, Some, is_none, is_some, option_map, ◌==◌, if◌then◌else◌, list_any, list_all, Wing, rules, common_steps}
use Rattle.chess_rules.proofs.lines.AttackToReach.{other-other}
use Rattle.chess_rules.proofs.moves.WaysToStep.{Castles, piece_step_means, pawn_step_means, passing_means, castles_means, way_of, by_piece, by_pawn, by_passing, by_short, by_long, some_of}
use Rattle.chess_rules.specs.declared.piece.Promotion.TheVariants as promotions
use Rattle.chess_rules.proofs.sets.AllSquares.{same_tests, Passes, some_square, any_square, each_square, all_squares}
use Rattle.chess_rules.proofs.moves.CellsAfterPut.{OnBoard, at_put, length-put}
use Rattle.chess_rules.proofs.moves.StepsKeepBoard.{home_below}
use Rattle.chess_rules.proofs.moves.LegalToPosition.{Legal, legal_means, from_on, to_on}
use Rattle.chess_rules.proofs.trying.FoundLists.{passes}

-- Two boards that differ in pieces of one colour alone, none of them a king, attack that colour's
-- king alike.

pub record CellsAlike (c : Colour) (x y : Option Piece) : Type 0 where
  pub king : has_piece c King x ≡ has_piece c King y
  pub empty : is_none x ≡ is_none y
  pub others : has_colour (other c) x ≡ true → x ≡ y
  pub back : has_colour (other c) y ≡ true → x ≡ y

pub record Alike (c : Colour) (b d : Board) : Type 0 where
  pub left : length b ≡ 64
  pub right : length d ≡ 64
  pub cells : (u : Square) → OnBoard u → CellsAlike c (at b u) (at d u)

itself : (c : Colour) (x : Option Piece) → CellsAlike c x x
itself c x = record { king = refl; empty = refl; others = λ _. refl; back = λ _. refl }

itself_too : (c : Colour) (b : Board) → length b ≡ 64 → Alike c b b
itself_too c b long = record { left = long; right = long; cells = λ u on. itself c (at b u) }

put_alike : (c : Colour) (b d : Board) (s : Square) (x y : Option Piece) → Alike c b d
    → OnBoard s → CellsAlike c x y → Alike c (put b s x) (put d s y)
put_alike c b d s x y alike on cells = grind (arith, common_steps, length-put, at_put)

any_same : (f g : Square → Bool) → ((u : Square) → OnBoard u → f u ≡ g u) → list_any f squares ≡ list_any g squares
any_same f g h = same_tests _ _ (λ a. one f g h (some_square f a)) (λ a. one g f (λ u on. sym (h u on)) (some_square g a))
  where
    one : (e k : Square → Bool) → ((u : Square) → OnBoard u → e u ≡ k u) → Passes e → list_any k squares ≡ true
    one e k same w = any_square k w.on w.file w.rank (sym (same w.on (record { file = w.file; rank = w.rank })) ∙ w.holds)

all_same : (f g : Square → Bool) → ((u : Square) → OnBoard u → f u ≡ g u) → list_all f squares ≡ list_all g squares
all_same f g h = same_tests _ _ (λ a. each f g h a) (λ a. each g f (λ u on. sym (h u on)) a)
  where
    each : (e k : Square → Bool) → ((u : Square) → OnBoard u → e u ≡ k u) → list_all e squares ≡ true → list_all k squares ≡ true
    each e k same a = all_squares k (λ u file rank. sym (same u (record { file = file; rank = rank })) ∙ each_square e u a file rank)

clear_alike : (c : Colour) (b d : Board) (s t : Square) → Alike c b d → is_clear b s t ≡ is_clear d s t
clear_alike c b d s t alike = grind (arith, common_steps, all_same)

cell_alike : (cell : Option Piece) (b d : Board) (s t : Square)
    → is_clear b s t ≡ is_clear d s t → cell_attacks cell b s t ≡ cell_attacks cell d s t
cell_alike cell b d s t h = grind arith

attack_alike : (c : Colour) (b d : Board) (s t : Square) → Alike c b d → OnBoard s
    → (has_colour (other c) (at b s) && attacks b s t) ≡ (has_colour (other c) (at d s) && attacks d s t)
attack_alike c b d s t alike on = by_colours (has_colour (other c) (at b s)) refl (has_colour (other c) (at d s)) refl
  where
    cells : CellsAlike c (at b s) (at d s)
    cells = alike.cells s on

    same : at b s ≡ at d s → attacks b s t ≡ attacks d s t
    same e = ap (λ cell. cell_attacks cell b s t) e ∙ cell_alike (at d s) b d s t (clear_alike c b d s t alike)

    by_colours : (x : Bool) → has_colour (other c) (at b s) ≡ x → (y : Bool)
        → has_colour (other c) (at d s) ≡ y → (x && attacks b s t) ≡ (y && attacks d s t)
    by_colours true e true f = same (cells.others e)
    by_colours true e false f = cc (ap (has_colour (other c)) (cells.others e))
    by_colours false e true f = cc (ap (has_colour (other c)) (cells.back f))
    by_colours false e false f = refl

pub king_alike : (c : Colour) (b d : Board) → Alike c b d → king_attacked b c ≡ king_attacked d c
king_alike c b d alike = search (rules, any_same, attack_alike)

-- What arrives.

men_alike : (c : Colour) (x y : Promotion) → CellsAlike c (some_piece c (kind_of x)) (some_piece c (kind_of y))
men_alike c x y = grind arith

-- The boards after a pair with two promotions.

abbrev promoting : Square → Square → Promotion → Move
promoting s t x = record { from = s; to = t; promotion = Some x }

module _ (p : Parts) (s t : Square) (x y : Promotion) where
  carried_alike : length p.board ≡ 64 → OnBoard s → OnBoard t → Alike p.side (carried p (promoting s t x)) (carried p (promoting s t y))
  carried_alike long on_s on_t = search (rules, put_alike, itself_too, men_alike)

  passing_alike : length p.board ≡ 64 → OnBoard s → OnBoard t → Alike p.side (en_passant_board p (promoting s t x))
      (en_passant_board p (promoting s t y))
  passing_alike long on_s on_t = search (rules, put_alike, carried_alike, itself)

  castled_alike : (rook crossing : ℕ) → length p.board ≡ 64 → OnBoard s → OnBoard t → rook < 8 → crossing < 8
      → Alike p.side (castled p (promoting s t x) rook crossing) (castled p (promoting s t y) rook crossing)
  castled_alike rook crossing long on_s on_t low_rook low_crossing = search (rules, put_alike, carried_alike, home_below, itself)

-- the mover's king is not attacked on the board
abbrev leaves_safe : Parts → Board → Bool
leaves_safe p b = not (king_attacked b (other (other p.side)))

safe_alike : (p : Parts) (b d : Board) → Alike p.side b d → leaves_safe p b ≡ leaves_safe p d
safe_alike p b d alike = grind (arith, other-other, king_alike)

-- a move is legal if there is a step, and the board after it leaves the king safe
legal_passes : (p : Parts) (m : Move) → is_legal p m ≡ (is_on_board m && passes (leaves_safe p) (board_after p m))
legal_passes p m = by_step (is_on_board m) (board_after p m)
  where
    by_safety : (v : Bool) (q : Parts) → is_some (if v then Some q else None) ≡ v
    by_safety v q = grind arith

    by_step : (v : Bool) (o : Option Board) → is_some (if_safe (if v then option_map (after p m) o else None)) ≡ (v && passes (leaves_safe p) o)
    by_step v o = grind arith

pick : (test : Board → Bool) (v x y z : Bool) (i j k l e f g h : Board)
    → test i ≡ test e → test j ≡ test f → test k ≡ test g → test l ≡ test h
    → passes test (if v then Some i else if x then Some j else if y then Some k else if z then Some l else None)
    ≡ passes test (if v then Some e else if x then Some f else if y then Some g else if z then Some h else None)
pick test v x y z i j k l e f g h a b c d = grind arith

both_when : (v x y : Bool) → (v ≡ true → x ≡ y) → (v && x) ≡ (v && y)
both_when v x y h = grind arith

pub promotions_alike : PromotionsAlike
promotions_alike p s t x y position =
    legal_passes p (promoting s t x)
    ∙ (both_when (is_on_board (promoting s t x)) _ _
    (λ on. boards (from_on (promoting s t x) on) (to_on (promoting s t x) on))
    ∙ sym (legal_passes p (promoting s t y)))
  where
    long : length p.board ≡ 64
    long = grind arith

    boards : OnBoard s → OnBoard t
        → passes (leaves_safe p) (board_after p (promoting s t x)) ≡ passes (leaves_safe p) (board_after p (promoting s t y))
    boards on_s on_t = grind (arith, pick, safe_alike, carried_alike, long, passing_alike, castled_alike)

-- A legal move names a promotion exactly if a pawn reaches its last rank.

abbrev pub arrives : Parts → Move → Bool
arrives p m = (m.to.rank == last_rank p.side) && own p Pawn m.from

named_by_pawn : (p : Parts) (m : Move) → own p Pawn m.from ≡ true → promotion_fits p m ≡ true → is_some m.promotion ≡ arrives p m
named_by_pawn p m owns fits = grind arith

named_by_other : (p : Parts) (m : Move) → own p Pawn m.from ≡ false → is_none m.promotion ≡ true → is_some m.promotion ≡ arrives p m
named_by_other p m owns none = grind arith

king_no_pawn : (p : Parts) (s : Square) → own p King s ≡ true → own p Pawn s ≡ false
king_no_pawn p s h = grind arith

pub named : (p q : Parts) (m : Move) → Legal p m q → is_some m.promotion ≡ arrives p m
named p q m l =
    elim (way_of p m l.board l.stepped) [
      | by_piece h _ ↦ (let w = piece_step_means p m h in named_by_other p m w.no_pawn w.plain)
      | by_pawn h _ ↦ (let w = pawn_step_means p m h in named_by_pawn p m w.pawn w.fits)
      | by_passing h _ ↦ (let w = passing_means p m h in named_by_pawn p m w.pawn w.fits)
      | by_short h _ ↦ by_castling short_wing (castles_means p m (short_right p.side p.rights) short_wing h)
      | by_long h _ ↦ by_castling long_wing (castles_means p m (long_right p.side p.rights) long_wing h)
    ]
  where
    by_castling : (wing : Wing) → Castles p m wing → is_some m.promotion ≡ arrives p m
    by_castling wing w = named_by_other p m (king_no_pawn p m.from w.king) w.plain

pub legal_after : (p : Parts) (m : Move) → is_legal p m ≡ true → (q : Parts) × Legal p m q
legal_after p m h = (let (q, e) = some_of (legal p m) h in (q, legal_means p m q e))

-- the one promotion that is tried will do
pub one_will_do : (p : Parts) (m : Move) → is_position p ≡ true → is_legal p m ≡ true → is_legal_pair p m.from m.to ≡ true
unfolding is_legal_pair
one_will_do p m position h = (let (q, l) = legal_after p m h in by_promotion m.promotion h (named p q m l))
  where
    by_arrival : (v w : Bool) → v ≡ w → is_legal p (record { from = m.from; to = m.to; promotion = if v then Some promotions.Queen else None })
        ≡ is_legal p (record { from = m.from; to = m.to; promotion = if w then Some promotions.Queen else None })
    by_arrival v w e = ap (λ x. is_legal p (record { from = m.from; to = m.to; promotion = if x then Some promotions.Queen else None })) e

    by_promotion : (o : Option Promotion) → is_legal p (record { from = m.from; to = m.to; promotion = o }) ≡ true
        → is_some o ≡ arrives p m → is_legal p (one_move p m.from m.to) ≡ true
    by_promotion None g e = by_arrival (arrives p m) false (sym e) ∙ g
    by_promotion (Some x) g e = by_arrival (arrives p m) true (sym e) ∙ (promotions_alike p m.from m.to promotions.Queen x position ∙ g)
