-- A step is of one kind, obeys the rules of that kind, and has its board.
use Rattle.chess_rules.proofs.Words.{King, Rook, Pawn, Kind, Colour, Piece, Move, Parts, StepKind, Plain, EnPassant, ShortCastling, LongCastling, gap, attacks, Board, at, some_piece, is_empty, other, has_colour, has_piece, Wing, own, home, captured_pawn, castles, is_piece_step, is_pawn_way, is_pawn_step, promotion_fits, is_target, is_en_passant, castles_short, castles_long, short_right, long_right, short_wing, long_wing, carried, en_passant_board, castled, board_after, reaches, step_kind, ◌≡◌, ◌≢◌, Bool, true, false, not, ◌&&◌, ◌||◌, ◌⊎◌, inl, inr, sym, ◌∙◌, ap, arith, nat_lt, ◌==◌, Option, None, Some, is_some, if◌then◌else◌, false≢true, false_from_ne_true, and_from, nat_tests, get_or-set_other, or_right, rules, common_steps}
use Rattle.chess_rules.proofs.moves.WaysToStep.{PieceStep, PawnStep, Passing, Castles, piece_step_means, pawn_step_means, passing_means, castles_means, way_of, by_piece, by_pawn, by_passing, by_short, by_long, some_of}
use Rattle.chess_rules.proofs.sets.AllSquares.{first_true, second_true, same_tests, equal_tests}
use Rattle.chess_rules.proofs.lines.AttackToReach.{kinds_same, colours_same}
use Rattle.chess_rules.proofs.moves.StepsKeepBoard.{colour_of_piece, one_kind, attacks_as}

-- a king goes further than to the next file
abbrev king_goes_far : Parts → Move → Bool
king_goes_far p m = nat_lt 1 (gap m.from.file m.to.file) && own p King m.from

-- a pawn goes to the en passant target, which is empty, and leaves its file
abbrev pawn_passes : Parts → Move → Bool
pawn_passes p m = (is_target p.target m.to && own p Pawn m.from) && (not (m.from.file == m.to.file) && is_empty p.board m.to)

-- The rules of a kind, and its board.

abbrev pub obeys : StepKind → Parts → Move → Bool
obeys Plain p m = is_piece_step p m || is_pawn_step p m
obeys EnPassant p m = is_en_passant p m
obeys ShortCastling p m = castles_short p m
obeys LongCastling p m = castles_long p m

abbrev pub board_of : StepKind → Parts → Move → Board
board_of Plain p m = carried p m
board_of EnPassant p m = en_passant_board p m
board_of ShortCastling p m = castled p m 7 5
board_of LongCastling p m = castled p m 0 3

abbrev kind_by : Bool → Bool → Bool → StepKind
kind_by far short passes = if far then (if short then ShortCastling else LongCastling) else if passes then EnPassant else Plain

passes_by : (far short passes : Bool) → EnPassant ≡ kind_by far short passes → passes ≡ true
passes_by far short passes e = grind arith

module _ (p : Parts) (m : Move) where
  no_far_pawn : own p Pawn m.from ≡ true → king_goes_far p m ≡ false
  no_far_pawn pawn = grind (arith, common_steps, false_from_ne_true, one_kind, second_true)

  piece_is_plain : PieceStep p m → step_kind p m ≡ Plain
  unfolding step_kind
  piece_is_plain h = search (rules, false_from_ne_true, attacks_as, second_true, false≢true, first_true)

  -- a pawn that keeps to its rules goes ahead, or finds a piece
  file_or_full : is_pawn_way p m ≡ true → (m.from.file ≡ m.to.file) ⊎ (is_empty p.board m.to ≡ false)
  file_or_full h = grind (arith, nat_tests)

  pawn_is_plain : PawnStep p m → step_kind p m ≡ Plain
  unfolding step_kind
  pawn_is_plain h =
      grind (arith, common_steps, no_far_pawn, false_from_ne_true, file_or_full, false≢true, equal_tests, first_true, second_true)

  passing_is_en_passant : Passing p m → step_kind p m ≡ EnPassant
  unfolding step_kind
  passing_is_en_passant h = grind (arith, common_steps, no_far_pawn, and_from)

  castling_is_short : Castles p m short_wing → step_kind p m ≡ ShortCastling
  unfolding step_kind
  castling_is_short w = grind arith

  castling_is_long : Castles p m long_wing → step_kind p m ≡ LongCastling
  unfolding step_kind
  castling_is_long w = grind arith

  -- a step obeys the rules of its kind, and has its board
  pub record OfKind (b : Board) : Type 0 where
    pub obeys : obeys (step_kind p m) p m ≡ true
    pub board : board_of (step_kind p m) p m ≡ b

  of_kind : (k : StepKind) (b : Board) → step_kind p m ≡ k → obeys k p m ≡ true → board_of k p m ≡ b → OfKind b
  of_kind k b is h g = record { obeys = ap (λ l. obeys l p m) is ∙ h; board = ap (λ l. board_of l p m) is ∙ g }

  pub step_of_kind : (b : Board) → board_after p m ≡ Some b → OfKind b
  step_of_kind b h =
      elim (way_of p m b h) [
        | by_piece w is ↦ of_kind Plain b (piece_is_plain (piece_step_means p m w)) (ap (λ x. x || is_pawn_step p m) w) is
        | by_pawn w is ↦ of_kind Plain b (pawn_is_plain (pawn_step_means p m w)) (or_right _ _ w) is
        | by_passing w is ↦ of_kind EnPassant b (passing_is_en_passant (passing_means p m w)) w is
        | by_short w is ↦ of_kind ShortCastling b (castling_is_short (castles_means p m (short_right p.side p.rights) short_wing w)) w is
        | by_long w is ↦ of_kind LongCastling b (castling_is_long (castles_means p m (long_right p.side p.rights) long_wing w)) w is
      ]

  -- the board of a step
  pub stepped_board : is_some (board_after p m) ≡ true → (b : Board) × (board_after p m ≡ Some b)
  stepped_board h = some_of (board_after p m) h

  -- a move is a step exactly if it obeys the rules of its kind
  pub obeys_if_step : (k : StepKind) → k ≡ step_kind p m → obeys k p m ≡ is_some (board_after p m)
  obeys_if_step k is =
      same_tests (obeys k p m) (is_some (board_after p m)) (there k)
      (λ h. let (b, stepped) = stepped_board h in ap (λ l. obeys l p m) is ∙ (step_of_kind b stepped).obeys)
    where
      some_way : (v w x y z : Bool) (i j k l : Board) → ((v || w) ≡ true) ⊎ ((x ≡ true) ⊎ ((y ≡ true) ⊎ (z ≡ true)))
          → is_some (if v || w then Some i else if x then Some j else if y then Some k else if z then Some l else None) ≡ true
      some_way v w x y z i j k l h = grind arith

      made : (((is_piece_step p m || is_pawn_step p m) ≡ true) ⊎ ((is_en_passant p m ≡ true)
          ⊎ ((castles_short p m ≡ true) ⊎ (castles_long p m ≡ true)))) → is_some (board_after p m) ≡ true
      made h = some_way (is_piece_step p m) (is_pawn_step p m) (is_en_passant p m) (castles_short p m) (castles_long p m) _ _ _ _ h

      there : (l : StepKind) → obeys l p m ≡ true → is_some (board_after p m) ≡ true
      there Plain h = made (inl h)
      there EnPassant h = made (inr (inl h))
      there ShortCastling h = made (inr (inr (inl h)))
      there LongCastling h = made (inr (inr (inr h)))

  -- the kind of a pawn's step
  pub pawn_kind : own p Pawn m.from ≡ true
      → step_kind p m ≡ (if (is_target p.target m.to && not (m.from.file == m.to.file)) && is_empty p.board m.to then EnPassant else Plain)
  unfolding step_kind
  pawn_kind pawn = grind (arith, no_far_pawn)

  -- a plain step of a pawn obeys the rules of pawns, and that of a rook, bishop, queen or knight
  -- those of pieces
  pub pawn_decides : own p Pawn m.from ≡ true → Plain ≡ step_kind p m → is_pawn_step p m ≡ is_some (board_after p m)
  pawn_decides pawn plain = grind (arith, obeys_if_step Plain plain)

  pub piece_kind : own p King m.from ≡ false → own p Pawn m.from ≡ false → Plain ≡ step_kind p m
  unfolding step_kind
  piece_kind king pawn = grind arith

  pub piece_decides : own p King m.from ≡ false → own p Pawn m.from ≡ false → is_piece_step p m ≡ is_some (board_after p m)
  piece_decides king pawn = no_pawn_step (is_piece_step p m) (own p Pawn m.from) _ _ pawn (obeys_if_step Plain (piece_kind king pawn))
    where
      no_pawn_step : (piece pawn way is : Bool) → pawn ≡ false → (piece || (pawn && way)) ≡ is → piece ≡ is
      no_pawn_step piece pawn way is none h = grind arith

  -- the piece that makes a step is of the side to move
  pub step_is_own : has_colour p.side (at p.board m.from) ≡ false → is_some (board_after p m) ≡ false
  step_is_own none = false_from_ne_true (is_some (board_after p m)) (λ h. let (b, stepped) = stepped_board h in absurd (false≢true (sym none ∙ own_of b stepped)))
    where
      own_of : (b : Board) → board_after p m ≡ Some b → has_colour p.side (at p.board m.from) ≡ true
      own_of b h =
          elim (way_of p m b h) [
            | by_piece w _ ↦ (piece_step_means p m w).mine
            | by_pawn w _ ↦ colour_of_piece p.side Pawn (at p.board m.from) (pawn_step_means p m w).pawn
            | by_passing w _ ↦ colour_of_piece p.side Pawn (at p.board m.from) (passing_means p m w).pawn
            | by_short w _ ↦ colour_of_piece p.side King (at p.board m.from) (castles_means p m (short_right p.side p.rights) short_wing w).king
            | by_long w _ ↦ colour_of_piece p.side King (at p.board m.from) (castles_means p m (long_right p.side p.rights) long_wing w).king
          ]

  pub board_of_step : (k : StepKind) → k ≡ step_kind p m → is_some (board_after p m) ≡ true → board_after p m ≡ Some (board_of k p m)
  board_of_step k is h = grind (arith, common_steps, stepped_board, step_of_kind)

  -- en passant asks these rules beside what its kind says
  pub passing_rules : EnPassant ≡ step_kind p m → is_some (board_after p m)
      ≡ ((promotion_fits p m && reaches Pawn p.side m.from m.to) && has_piece (other p.side) Pawn (at p.board (captured_pawn m)))
  unfolding step_kind
  passing_rules is =
      sym (obeys_if_step EnPassant is) ∙ with_passing (own p Pawn m.from) (promotion_fits p m) (is_target p.target m.to)
      (is_empty p.board m.to) (attacks p.board m.from m.to) (reaches Pawn p.side m.from m.to) _
      (second_true _ _ (first_true _ _ passes)) (first_true _ _ (first_true _ _ passes))
      (second_true _ _ (second_true _ _ passes)) (hits (second_true _ _ (first_true _ _ passes)))
    where
      passes : pawn_passes p m ≡ true
      passes = passes_by (king_goes_far p m) (m.to.file == 6) (pawn_passes p m) is

      hits : own p Pawn m.from ≡ true → attacks p.board m.from m.to ≡ reaches Pawn p.side m.from m.to
      hits pawn = grind arith

      with_passing : (o f t e a r k : Bool) → o ≡ true → t ≡ true → e ≡ true
          → a ≡ r → (((o && f) && (t && e)) && (a && k)) ≡ ((f && r) && k)
      with_passing o f t e a r k owns target empty same = grind arith

-- The rook of a king that castles is still there when the king has moved.

piece_there : (c : Colour) (k : Kind) (cell : Option Piece) → has_piece c k cell ≡ true → cell ≡ some_piece c k
piece_there c k cell h = grind (arith, kinds_same, colours_same, first_true, second_true)

pub rook_waits : (p : Parts) (m : Move) (right : Bool) (wing : Wing) → wing.rook ≢ 4 → wing.rook ≢ wing.end
    → castles p m right wing ≡ true → at (carried p m) (home p wing.rook) ≡ some_piece p.side Rook
rook_waits p m right wing apart differ h = grind (arith, common_steps, castles_means, get_or-set_other, piece_there)
