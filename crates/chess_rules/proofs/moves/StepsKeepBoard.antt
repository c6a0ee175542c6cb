-- Each of the ways to step leaves the board in order.
use Rattle.chess_rules.proofs.Words.{Colour, Kind, King, Rook, Pawn, Piece, Promotion, Move, Parts, Square, square, gap, strictly_between, Board, some_piece, at, put, is_empty, other, has_colour, has_piece, is_pawn, is_clear, is_ahead, kind_attacks, cell_attacks, attacks, is_attacked, king_attacked, target_fits, target_rank, own, home, home_rank, pawn_rank, double_rank, last_rank, is_double_step, is_pawn_way, is_target, captured_pawn, Wing, short_wing, long_wing, kind_of, carried, en_passant_board, castled, ◌≡◌, ◌≢◌, ℕ, ◌<◌, true, false, not, ◌&&◌, ◌||◌, ◌⊎◌, inl, inr, refl, sym, ◌∙◌, ap, subst, arith, ◌==◌, Option, None, is_none, nat_tests, or_cases, and_from, false_from_ne_true, rules, common_steps}
use Rattle.chess_rules.proofs.moves.WaysToStep.{PieceStep, PawnStep, Passing, Castles}
use Rattle.chess_rules.proofs.sets.AllSquares.{first_true, second_true, each_square, any_square, equal_tests, not_true}
use Rattle.chess_rules.proofs.lines.AttackToReach.{kinds_same, ahead_gap, other-other}
use Rattle.chess_rules.proofs.moves.CellsAfterPut.{OnBoard, at_put}
use Rattle.chess_rules.proofs.positions.RulesOfPosition.{Sound, is_edge}
use Rattle.chess_rules.proofs.moves.BoardAfterMove.{arriving, Lands, Stays, IsPlain, carried_stays, put_stays, carried_free}

-- Cells.

module _ (c : Colour) where
  pub colour_of_piece : (k : Kind) (cell : Option Piece) → has_piece c k cell ≡ true → has_colour c cell ≡ true
  colour_of_piece k cell h = grind arith

  pub not_both : (cell : Option Piece) → has_colour c cell ≡ true → has_colour (other c) cell ≡ true → ⊥
  not_both cell h g = grind arith

  -- a cell has pieces of one kind
  pub one_kind : (d : Colour) (k l : Kind) (cell : Option Piece) → has_piece c k cell ≡ true → has_piece d l cell ≡ true → k ≡ l
  one_kind d k l cell h g = grind (arith, second_true)

  no_king_with : (d : Colour) (k : Kind) (cell : Option Piece) → (King ≡ k → ⊥) → has_piece d k cell ≡ true → has_piece c King cell ≡ false
  no_king_with d k cell differ h = grind arith

  empty_free : (k : Kind) (cell : Option Piece) → is_none cell ≡ true → has_piece c k cell ≡ false
  empty_free k cell h = grind arith

  king_is_no_pawn : (cell : Option Piece) → has_piece c King cell ≡ true → is_pawn cell ≡ false
  king_is_no_pawn cell h = grind arith

  promoted_is_no_king : (d : Colour) (q : Promotion) → has_piece c King (some_piece d (kind_of q)) ≡ false
  promoted_is_no_king d q = grind arith

  -- the piece on a square attacks as its kind and colour do
  pub attacks_as : (k : Kind) (cell : Option Piece) (b : Board) (s t : Square) → has_piece c k cell ≡ true → cell_attacks cell b s t ≡ true
      → kind_attacks k c b s t ≡ true
  attacks_as k cell b s t h g = grind (arith, kinds_same, second_true)

-- The other king is never taken.

king_not_taken : (p : Parts) (s t : Square) → Sound p → OnBoard s → OnBoard t → has_colour p.side (at p.board s) ≡ true
    → attacks p.board s t ≡ true → has_piece (other p.side) King (at p.board t) ≡ false
king_not_taken p s t sound on_s on_t own hits =
    false_from_ne_true (has_piece (other p.side) King (at p.board t)) (λ king.
    let attacked : is_attacked p.board (other (other p.side)) t ≡ true =
    subst (λ (c : Colour). is_attacked p.board c t ≡ true) (sym (other-other p.side))
    (any_square (λ u. has_colour p.side (at p.board u) && attacks p.board u t) s on_s.file on_s.rank (and_from _ _ own hits)) in
    let taken : king_attacked p.board (other p.side) ≡ true =
    any_square (λ k. has_piece (other p.side) King (at p.board k) && is_attacked p.board (other (other p.side)) k) t on_t.file on_t.rank
    (and_from _ _ king attacked) in
    cc (taken, sound.safe))

-- no king stands where no own piece and no other king stands
free_of : (p : Parts) (t : Square) → has_colour p.side (at p.board t) ≡ false
    → has_piece (other p.side) King (at p.board t) ≡ false → (c : Colour) → has_piece c King (at p.board t) ≡ false
free_of p t own theirs c = grind arith

module _ (p : Parts) (m : Move) where
  arrives_as : is_none m.promotion ≡ true → arriving p m ≡ at p.board m.from
  arrives_as h = grind arith

  -- A king, queen, rook, bishop or knight.

  pub piece_lands : Sound p → OnBoard m.from → OnBoard m.to → PieceStep p m → Lands p m
  piece_lands sound on_from on_to h = grind (arith, common_steps, free_of, king_not_taken, arrives_as)

  -- A pawn.

  pub pawn_attack : own p Pawn m.from ≡ true → attacks p.board m.from m.to ≡ true
      → ((gap m.from.file m.to.file == 1) && is_ahead p.side m.from.rank m.to.rank) ≡ true
  pawn_attack pawn hits = grind arith

-- one rank ahead, or from the pawns' first rank to that of the double step
abbrev pub pawn_goes : Parts → Move → Type 0
pawn_goes p m = (is_ahead p.side m.from.rank m.to.rank ≡ true) ⊎ ((m.from.rank ≡ pawn_rank p.side) × (m.to.rank ≡ double_rank p.side))

module _ (p : Parts) (m : Move) where
  pub double_ranks : is_double_step p m ≡ true → (m.from.rank ≡ pawn_rank p.side) × (m.to.rank ≡ double_rank p.side)
  double_ranks two = grind arith

  pub way_goes : own p Pawn m.from ≡ true → is_pawn_way p m ≡ true → pawn_goes p m
  way_goes pawn h = grind (arith, nat_tests)

  way_free : Sound p → OnBoard m.from → OnBoard m.to → own p Pawn m.from ≡ true → is_pawn_way p m ≡ true → (c : Colour)
      → has_piece c King (at p.board m.to) ≡ false
  way_free sound on_from on_to pawn h =
      grind (arith, common_steps, or_cases, empty_free, second_true, first_true, free_of, false_from_ne_true, not_both, king_not_taken)

last_of : (c : Colour) (a b : ℕ) → a < 8 → (is_ahead c a b ≡ true) ⊎ ((a ≡ pawn_rank c) × (b ≡ double_rank c))
    → is_edge b ≡ true → b ≡ last_rank c
last_of c a b low h edge = grind arith

pub pawn_lands : (p : Parts) (m : Move) → Sound p → OnBoard m.from → OnBoard m.to → PawnStep p m → Lands p m
pawn_lands p m sound on_from on_to h =
    search (rules, colour_of_piece, way_free, equal_tests, last_of, way_goes, promoted_is_no_king, no_king_with)

target_line : (c : Colour) (o : Option Square) (t : Square) → target_fits c o ≡ true → is_target o t ≡ true → t.rank ≡ target_rank c
target_line c o t fits hits = grind arith

inner_line : (c : Colour) (rank : ℕ) → rank ≡ target_rank c → ((rank == last_rank c) ≡ false) × (is_edge rank ≡ false)
inner_line c rank h = grind arith

pub passing_lands : (p : Parts) (m : Move) → Sound p → OnBoard m.from → OnBoard m.to → Passing p m → Lands p m
passing_lands p m sound on_from on_to h =
    grind (arith, common_steps, colour_of_piece, empty_free, arrives_as, inner_line, target_line)

nothing_plain : IsPlain None
nothing_plain = record { no_king = λ c. refl; no_pawn = refl }

rook_plain : (d : Colour) → IsPlain (some_piece d Rook)
rook_plain d = grind arith

pub passing_stays : (p : Parts) (m : Move) → Sound p → OnBoard m.from → OnBoard m.to → Passing p m → Stays p m (en_passant_board p m)
passing_stays p m sound on_from on_to h =
    put_stays p m (carried p m) (captured_pawn m) None (carried_stays p m sound lands) on_captured
    (carried_free p m sound lands (captured_pawn m) on_captured apart
    (λ c. no_king_with c (other p.side) Pawn (at p.board (captured_pawn m)) (λ e. cc) h.taken))
    nothing_plain
  where
    lands : Lands p m
    lands = passing_lands p m sound on_from on_to h

    on_captured : OnBoard (captured_pawn m)
    on_captured = record { file = on_to.file; rank = on_from.rank }

    ahead : gap m.from.rank m.to.rank ≡ 1
    ahead = ahead_gap p.side m.from.rank m.to.rank (second_true (gap m.from.file m.to.file == 1) _ (pawn_attack p m h.pawn h.hits))

    apart : captured_pawn m ≢ m.to
    apart e =
        (let same : m.from.rank ≡ m.to.rank = ap (λ s. s.rank) e in let one : gap m.from.rank m.to.rank ≡ 1 = ahead in absurd (omega arith))

-- Castling.

pub home_below : (c : Colour) → home_rank c < 8
home_below c = grind arith

between_empty : (b : Board) (s t u : Square) → is_clear b s t ≡ true → OnBoard u → strictly_between s u t ≡ true → is_empty b u ≡ true
between_empty b s t u clear on between =
    not_true (strictly_between s u t) (is_empty b u) between
    (each_square (λ v. not (strictly_between s v t) || is_empty b v) u clear on.file on.rank)

-- a wing: its squares are apart, and the king's end and the crossing lie between king and rook
pub record IsWing (wing : Wing) : Type 0 where
  pub rook_below : wing.rook < 8
  pub end_below : wing.end < 8
  pub crossing_below : wing.crossing < 8
  pub rook_end : wing.rook ≢ wing.end
  pub crossing_end : wing.crossing ≢ wing.end
  pub between_end : (c : Colour)
      → strictly_between (square 4 (home_rank c)) (square wing.end (home_rank c)) (square wing.rook (home_rank c)) ≡ true
  pub between_crossing : (c : Colour)
      → strictly_between (square 4 (home_rank c)) (square wing.crossing (home_rank c)) (square wing.rook (home_rank c)) ≡ true

pub short_is_wing : IsWing short_wing
short_is_wing = grind arith

pub long_is_wing : IsWing long_wing
long_is_wing = grind arith

module _ (p : Parts) (m : Move) (wing : Wing) where
  pub castling_ends_empty : IsWing wing → Castles p m wing → is_empty p.board m.to ≡ true
  castling_ends_empty is_wing h = grind (arith, common_steps, between_empty)

  pub castling_lands : IsWing wing → OnBoard m.from → OnBoard m.to → Castles p m wing → Lands p m
  castling_lands is_wing on_from on_to h =
      grind (arith, common_steps, colour_of_piece, empty_free, castling_ends_empty, arrives_as, king_is_no_pawn)

pub castling_stays : (p : Parts) (m : Move) (wing : Wing) → Sound p → IsWing wing → OnBoard m.from
    → OnBoard m.to → Castles p m wing → Stays p m (castled p m wing.rook wing.crossing)
castling_stays p m wing sound is_wing on_from on_to h =
    put_stays p m (put (carried p m) (home p wing.rook) None) (home p wing.crossing)
    (some_piece p.side Rook) cornered on_crossing crossing_free (rook_plain p.side)
  where
    lands : Lands p m
    lands = castling_lands p m wing is_wing on_from on_to h

    on_rook : OnBoard (home p wing.rook)
    on_rook = record { file = is_wing.rook_below; rank = home_below p.side }

    on_crossing : OnBoard (home p wing.crossing)
    on_crossing = record { file = is_wing.crossing_below; rank = home_below p.side }

    apart_from : (file : ℕ) → file ≢ wing.end → home p file ≢ m.to
    apart_from file differ e = grind arith

    cornered : Stays p m (put (carried p m) (home p wing.rook) None)
    cornered =
        put_stays p m (carried p m) (home p wing.rook) None (carried_stays p m sound lands) on_rook
        (carried_free p m sound lands (home p wing.rook) on_rook (apart_from wing.rook is_wing.rook_end)
        (λ c. no_king_with c p.side Rook (at p.board (home p wing.rook)) (λ e. cc) h.rook))
        nothing_plain

    crossing_free : (c : Colour) → has_piece c King (at (put (carried p m) (home p wing.rook) None) (home p wing.crossing)) ≡ false
    crossing_free c =
        elim (at_put (carried p m) (home p wing.rook) (home p wing.crossing) None (carried_stays p m sound lands).long on_rook on_crossing) [
          | inl here ↦ ap (has_piece c King) here.1
          | inr there ↦ ap (has_piece c King) there.1
              ∙ carried_free p m sound lands (home p wing.crossing) on_crossing (apart_from wing.crossing is_wing.crossing_end)
              (λ d. empty_free d King (at p.board (home p wing.crossing))
              (between_empty p.board (home p 4) (home p wing.rook) (home p wing.crossing) h.clear on_crossing (is_wing.between_crossing p.side))) c
        ]
