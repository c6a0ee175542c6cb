-- **Definition**: one step of the side to move, and the parts after it (FIDE 3).
-- `Legal` says whether the king is safe after it.
use Rattle.std.specs.Prelude.{ℕ, ◌+◌, ◌/◌, min, Bool, false, ◌&&◌, ◌||◌, not, Option, None, Some, ◌==◌, is_none, is_some, List, [], ◌∷◌, option_map, if◌then◌else◌}
use Rattle.chess_rules.specs.declared.piece.Colour.{Colour}
use Rattle.chess_rules.specs.declared.piece.Colour.TheVariants.{White, Black}
use Rattle.chess_rules.specs.declared.piece.Kind.{Kind}
use Rattle.chess_rules.specs.declared.piece.Kind.TheVariants.{King, Queen, Rook, Bishop, Knight, Pawn}
use Rattle.chess_rules.specs.declared.piece.Piece.{Piece}
use Rattle.chess_rules.specs.declared.piece.Promotion.{Promotion}
use Rattle.chess_rules.specs.declared.piece.Promotion.TheVariants as promotions
use Rattle.chess_rules.specs.declared.position.Move.{Move}
use Rattle.chess_rules.specs.declared.position.Rights.{Rights}
use Rattle.chess_rules.specs.declared.position.Parts.{Parts}
use Rattle.chess_rules.specs.Square.{Square, square, on_board, same_square}
use Rattle.chess_rules.specs.Board.{Board, some_piece, at, put, is_empty, other, has_colour, has_piece}
use Rattle.chess_rules.specs.Attacks.{attacks, is_attacked, is_ahead, is_clear}

-- the rank on which the colour's king and rooks begin, the rank of its pawns, the rank after their
-- double step, and the rank of promotion
abbrev pub home_rank : Colour → ℕ
home_rank White = 0
home_rank Black = 7

abbrev pub pawn_rank : Colour → ℕ
pawn_rank White = 1
pawn_rank Black = 6

abbrev pub double_rank : Colour → ℕ
double_rank White = 3
double_rank Black = 4

abbrev pub last_rank : Colour → ℕ
last_rank White = 7
last_rank Black = 0

-- a piece of the kind, of the side to move, is on s
abbrev pub own : Parts → Kind → Square → Bool
own p k s = has_piece p.side k (at p.board s)

-- A king, queen, rook, bishop or knight goes to a square that it attacks and that has no piece of
-- its side. (FIDE 3.1, 3.2 to 3.6, 3.8.1)
abbrev pub is_piece_step : Parts → Move → Bool
is_piece_step p m =
    ((has_colour p.side (at p.board m.from) && not (own p Pawn m.from)) && is_none m.promotion)
    && (attacks p.board m.from m.to && not (has_colour p.side (at p.board m.to)))

-- the square that a double step crosses
abbrev pub crossed : Move → Square
crossed m = square m.from.file ((m.from.rank + m.to.rank) / 2)

-- one square forward, to an empty square (FIDE 3.7.1)
abbrev pub is_advance : Parts → Move → Bool
is_advance p m =
    ((m.from.file == m.to.file) && is_ahead p.side m.from.rank m.to.rank) && is_empty p.board m.to

-- two squares forward from the rank of the pawns, both empty (FIDE 3.7.2)
abbrev pub is_double_step : Parts → Move → Bool
is_double_step p m =
    ((m.from.file == m.to.file) && ((m.from.rank == pawn_rank p.side) && (m.to.rank == double_rank p.side)))
    && (is_empty p.board (crossed m) && is_empty p.board m.to)

-- to a square that it attacks and that has a piece of the other side (FIDE 3.7.3)
abbrev pub is_pawn_capture : Parts → Move → Bool
is_pawn_capture p m = attacks p.board m.from m.to && has_colour (other p.side) (at p.board m.to)

-- a promotion is named exactly on the last rank (FIDE 3.7.3.3)
abbrev pub promotion_fits : Parts → Move → Bool
promotion_fits p m = if m.to.rank == last_rank p.side then is_some m.promotion else is_none m.promotion

-- one of the three ways in which a pawn goes, except for en passant
abbrev pub is_pawn_way : Parts → Move → Bool
is_pawn_way p m = is_advance p m || (is_double_step p m || is_pawn_capture p m)

-- a pawn's step, except for en passant (FIDE 3.7)
abbrev pub is_pawn_step : Parts → Move → Bool
is_pawn_step p m = own p Pawn m.from && (is_pawn_way p m && promotion_fits p m)

-- the square is the en passant target
abbrev pub is_target : Option Square → Square → Bool
is_target None t = false
is_target (Some u) t = same_square u t

-- the square of the pawn that is taken en passant: on the origin's rank and the target's file
abbrev pub captured_pawn : Move → Square
captured_pawn m = square m.to.file m.from.rank

-- A pawn goes to the en passant target, an empty square that it attacks, while a pawn of the other
-- side is beside its origin, on the target's file. (FIDE 3.7.3.1, 3.7.3.2)
abbrev pub is_en_passant : Parts → Move → Bool
is_en_passant p m =
    ((own p Pawn m.from && promotion_fits p m) && (is_target p.target m.to && is_empty p.board m.to))
    && (attacks p.board m.from m.to && has_piece (other p.side) Pawn (at p.board (captured_pawn m)))

-- a wing of the board: the files of its rook, of the king's end, and of the square that the king
-- crosses and the rook ends on
pub record Wing : Type 0 where
  pub rook : ℕ
  pub end : ℕ
  pub crossing : ℕ

abbrev pub short_wing : Wing
short_wing = record { rook = 7; end = 6; crossing = 5 }

abbrev pub long_wing : Wing
long_wing = record { rook = 0; end = 2; crossing = 3 }

abbrev pub short_right : Colour → Rights → Bool
short_right White r = r.white_short
short_right Black r = r.black_short

abbrev pub long_right : Colour → Rights → Bool
long_right White r = r.white_long
long_right Black r = r.black_long

-- the square of the side's home rank on that file
abbrev pub home : Parts → ℕ → Square
home p file = square file (home_rank p.side)

-- the move is from the king's home square to that file of its rank
abbrev pub is_king_move : Parts → Move → ℕ → Bool
is_king_move p m end = same_square m.from (home p 4) && same_square m.to (home p end)

-- king and rook are on their home squares, and all squares between are empty
abbrev pub stand_ready : Parts → ℕ → Bool
stand_ready p rook = (own p King (home p 4) && own p Rook (home p rook)) && is_clear p.board (home p 4) (home p rook)

-- the other side does not attack the square on that file of the home rank
abbrev pub is_unattacked : Parts → ℕ → Bool
is_unattacked p file = not (is_attacked p.board (other p.side) (home p file))

-- The king goes from its home square two squares towards a rook of its side on its home square. The
-- side has the right, and all squares between king and rook are empty. The other side attacks none
-- of the squares that the king leaves, crosses and reaches. (FIDE 3.8.2, 3.8.2.1, 3.8.2.2)
abbrev pub castles : Parts → Move → Bool → Wing → Bool
castles p m right wing =
    ((right && is_none m.promotion) && is_king_move p m wing.end)
    && (stand_ready p wing.rook && (is_unattacked p 4 && (is_unattacked p wing.crossing && is_unattacked p wing.end)))

-- castling with the rook of the h file
abbrev pub castles_short : Parts → Move → Bool
castles_short p m = castles p m (short_right p.side p.rights) short_wing

-- castling with the rook of the a file
abbrev pub castles_long : Parts → Move → Bool
castles_long p m = castles p m (long_right p.side p.rights) long_wing

abbrev pub kind_of : Promotion → Kind
kind_of promotions.Queen = Queen
kind_of promotions.Rook = Rook
kind_of promotions.Bishop = Bishop
kind_of promotions.Knight = Knight

-- the piece that arrives (FIDE 3.7.3.3)
abbrev pub promoted : Colour → Option Promotion → Option Piece → Option Piece
promoted c None cell = cell
promoted c (Some q) cell = Some (record { colour = c; kind = kind_of q })

-- the board with the piece on m.from moved to m.to, and promoted if a promotion is named
abbrev pub carried : Parts → Move → Board
carried p m = put (put p.board m.from None) m.to (promoted p.side m.promotion (at p.board m.from))

-- the board after en passant: also the captured pawn leaves
abbrev pub en_passant_board : Parts → Move → Board
en_passant_board p m = put (carried p m) (captured_pawn m) None

-- the board after castling: also the rook goes from its file to the square that the king crossed
abbrev pub castled : Parts → Move → ℕ → ℕ → Board
castled p m rook crossing = put (put (carried p m) (home p rook) None) (home p crossing) (some_piece p.side Rook)

-- the move begins or ends on the square
abbrev pub touches : Move → ℕ → ℕ → Bool
touches m file rank = same_square m.from (square file rank) || same_square m.to (square file rank)

-- a right stays while neither the king's nor the rook's home square is touched (FIDE 3.8.2.1; PGN
-- 16.1.3.3)
abbrev pub keeps : Move → ℕ → ℕ → Bool
keeps m file rank = not (touches m 4 rank || touches m file rank)

abbrev pub rights_after : Move → Rights → Rights
rights_after m r =
    record {
      white_short = r.white_short && keeps m 7 0;
      white_long = r.white_long && keeps m 0 0;
      black_short = r.black_short && keeps m 7 7;
      black_long = r.black_long && keeps m 0 7;
    }

-- the square that a double step crosses (PGN 16.1.3.4)
abbrev pub target_after : Parts → Move → Option Square
target_after p m = if own p Pawn m.from && is_double_step p m then Some (crossed m) else None

-- one more, up to 99,999
abbrev pub counted : ℕ → ℕ
counted n = min (n + 1) 99999

-- 0 after a pawn's move or a capture, else one more (PGN 16.1.3.5)
abbrev pub half_after : Parts → Move → ℕ
half_after p m = if own p Pawn m.from || not (is_empty p.board m.to) then 0 else counted p.half

-- one more after Black's move (PGN 16.1.3.6)
abbrev pub full_after : Colour → ℕ → ℕ
full_after White full = full
full_after Black full = counted full

-- the parts after m, with that board
abbrev pub after : Parts → Move → Board → Parts
after p m board =
    record {
      board = board;
      side = other p.side;
      rights = rights_after m p.rights;
      target = target_after p m;
      half = half_after p m;
      full = full_after p.side p.full;
    }

-- both squares are on the board
abbrev pub is_on_board : Move → Bool
is_on_board m = on_board m.from && on_board m.to

-- which of the five ways to step the move is
abbrev pub cases : Parts → Move → List Bool
cases p m = is_piece_step p m ∷ is_pawn_step p m ∷ is_en_passant p m ∷ castles_short p m ∷ castles_long p m ∷ []

-- The board after m, if it is a step of the side to move. No move is a step in two ways (a law says
-- so), so the order does not matter.
abbrev pub board_after : Parts → Move → Option Board
board_after p m =
    if is_piece_step p m || is_pawn_step p m then Some (carried p m)
    else if is_en_passant p m then Some (en_passant_board p m)
    else if castles_short p m then Some (castled p m short_wing.rook short_wing.crossing)
    else if castles_long p m then Some (castled p m long_wing.rook long_wing.crossing)
    else None

-- the parts after m, if it is a step of the side to move
abbrev pub step : Parts → Move → Option Parts
step p m = if is_on_board m then option_map (after p m) (board_after p m) else None
