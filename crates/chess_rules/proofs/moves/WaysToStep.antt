-- The five ways to step: what the rules of each ask, and the board that each leaves.
use Rattle.chess_rules.proofs.Words.{King, Rook, Pawn, Move, Parts, Board, at, is_empty, other, has_colour, has_piece, is_clear, attacks, own, home, is_piece_step, is_pawn_way, is_pawn_step, promotion_fits, is_en_passant, is_target, captured_pawn, castles, Wing, carried, en_passant_board, castled, ◌≡◌, Bool, true, false, ◌&&◌, ◌||◌, refl, arith, None, Some, is_none, if◌then◌else◌, nat_tests, board_after, castles_short, castles_long, is_some, Option, rules}

-- a king, queen, rook, bishop or knight
pub record PieceStep (p : Parts) (m : Move) : Type 0 where
  pub mine : has_colour p.side (at p.board m.from) ≡ true
  pub no_pawn : own p Pawn m.from ≡ false
  pub plain : is_none m.promotion ≡ true
  pub hits : attacks p.board m.from m.to ≡ true
  pub free : has_colour p.side (at p.board m.to) ≡ false

pub piece_step_means : (p : Parts) (m : Move) → is_piece_step p m ≡ true → PieceStep p m
piece_step_means p m h = search rules

pub record PawnStep (p : Parts) (m : Move) : Type 0 where
  pub pawn : own p Pawn m.from ≡ true
  pub way : is_pawn_way p m ≡ true
  pub fits : promotion_fits p m ≡ true

pub pawn_step_means : (p : Parts) (m : Move) → is_pawn_step p m ≡ true → PawnStep p m
pawn_step_means p m h = let (pawn, way, fits) = parts _ _ _ h in record { pawn = pawn; way = way; fits = fits }
  where
    parts : (a b c : Bool) → (a && (b && c)) ≡ true → (a ≡ true) × (b ≡ true) × (c ≡ true)
    parts a b c h = grind arith

-- en passant
pub record Passing (p : Parts) (m : Move) : Type 0 where
  pub pawn : own p Pawn m.from ≡ true
  pub fits : promotion_fits p m ≡ true
  pub target : is_target p.target m.to ≡ true
  pub empty : is_empty p.board m.to ≡ true
  pub hits : attacks p.board m.from m.to ≡ true
  pub taken : has_piece (other p.side) Pawn (at p.board (captured_pawn m)) ≡ true

pub passing_means : (p : Parts) (m : Move) → is_en_passant p m ≡ true → Passing p m
passing_means p m h =
    let (pawn, fits, target, empty, hits, taken) = parts _ _ _ _ _ _ h in
    record { pawn = pawn; fits = fits; target = target; empty = empty; hits = hits; taken = taken }
  where
    parts : (a b c d e f : Bool) → (((a && b) && (c && d)) && (e && f)) ≡ true
        → (a ≡ true) × (b ≡ true) × (c ≡ true) × (d ≡ true) × (e ≡ true) × (f ≡ true)
    parts a b c d e f h = grind arith

pub record Castles (p : Parts) (m : Move) (wing : Wing) : Type 0 where
  pub plain : is_none m.promotion ≡ true
  pub from : m.from ≡ home p 4
  pub to : m.to ≡ home p wing.end
  pub king : own p King m.from ≡ true
  pub rook : own p Rook (home p wing.rook) ≡ true
  pub clear : is_clear p.board (home p 4) (home p wing.rook) ≡ true

pub castles_means : (p : Parts) (m : Move) (right : Bool) (wing : Wing) → castles p m right wing ≡ true → Castles p m wing
castles_means p m right wing h = grind (arith, nat_tests)

pub some_of : {X : Type 0} (o : Option X) → is_some o ≡ true → (x : X) × (o ≡ Some x)
some_of None h = cc
some_of (Some x) h = (x, refl)

-- which way it was
pub data Way (p : Parts) (m : Move) (b : Board) : Type 0 where
  by_piece : is_piece_step p m ≡ true → carried p m ≡ b → Way p m b
  by_pawn : is_pawn_step p m ≡ true → carried p m ≡ b → Way p m b
  by_passing : is_en_passant p m ≡ true → en_passant_board p m ≡ b → Way p m b
  by_short : castles_short p m ≡ true → castled p m 7 5 ≡ b → Way p m b
  by_long : castles_long p m ≡ true → castled p m 0 3 ≡ b → Way p m b

pub way_of : (p : Parts) (m : Move) (b : Board) → board_after p m ≡ Some b → Way p m b
way_of p m b h = by_tests _ _ _ _ _ refl refl refl refl refl h
  where
    by_tests : (v w x y z : Bool) → is_piece_step p m ≡ v → is_pawn_step p m ≡ w → is_en_passant p m ≡ x
        → castles_short p m ≡ y → castles_long p m ≡ z → (if v || w then Some (carried p m) else if x then Some (en_passant_board p m)
        else if y then Some (castled p m 7 5) else if z then Some (castled p m 0 3) else None) ≡ Some b → Way p m b
    by_tests v w x y z e f g i j is = search (rules, by_piece, by_pawn, by_passing, by_short, by_long)
