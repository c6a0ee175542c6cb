-- **Definition**: when two positions are the same (FIDE 9.2.3), and their key: a text that is the
-- same exactly then. At the end: the laws of keys.
use Rattle.std.specs.Prelude.{◌≡◌, ◌↔◌, ℕ, Bool, ◌&&◌, List, [], ◌∷◌, Option, None, Some, length, filter, IsTrue, if◌then◌else◌}
use Rattle.std.specs.List.{join_with_byte, list_any}
use Rattle.chess_rules.specs.declared.piece.Colour.{Colour}
use Rattle.chess_rules.specs.declared.piece.Colour.TheVariants.{White, Black}
use Rattle.chess_rules.specs.declared.piece.Kind.TheVariants.{King, Rook, Pawn}
use Rattle.chess_rules.specs.declared.position.Rights.{Rights}
use Rattle.chess_rules.specs.declared.position.Move.{Move}
use Rattle.chess_rules.specs.declared.position.Parts.{Parts}
use Rattle.chess_rules.specs.Square.{Square, square, squares}
use Rattle.chess_rules.specs.Board.{Board, at, is_empty, has_piece}
use Rattle.chess_rules.specs.Attacks.{attacks}
use Rattle.chess_rules.specs.Position.{is_position}
use Rattle.chess_rules.specs.Step.{home_rank, own, is_en_passant, short_wing, long_wing}
use Rattle.chess_rules.specs.Legal.{is_legal}
use Rattle.chess_text.specs.Field.{side_text, rights_text, target_text}
use Rattle.chess_text.specs.Placement.{placement_text}

-- Castling. (FIDE 9.2.3.2)

-- the colour's king and its rook of that file are on their home squares
abbrev pub stand_at_home : Board → Colour → ℕ → Bool
stand_at_home b c file =
    has_piece c King (at b (square 4 (home_rank c))) && has_piece c Rook (at b (square file (home_rank c)))

-- The rights that can still be used. A right is lost once its king or its rook has moved, so one
-- whose king or rook is not at home is none.
abbrev pub usable_rights : Parts → Rights
usable_rights p =
    record {
      white_short = p.rights.white_short && stand_at_home p.board White short_wing.rook;
      white_long = p.rights.white_long && stand_at_home p.board White long_wing.rook;
      black_short = p.rights.black_short && stand_at_home p.board Black short_wing.rook;
      black_long = p.rights.black_long && stand_at_home p.board Black long_wing.rook;
    }

-- En passant. (FIDE 9.2.3.1)

-- the move takes a pawn en passant, and is legal
abbrev pub takes_en_passant : Parts → Move → Bool
takes_en_passant p m = is_en_passant p m && is_legal p m

-- a pawn's move from that square to t, which promotes it to nothing
abbrev pub move_to : Square → Square → Move
move_to t from = record { from = from; to = t; promotion = None }

-- a legal move to t takes a pawn en passant
abbrev pub is_taken_on : Parts → Square → Bool
is_taken_on p t = list_any (λ from. takes_en_passant p (move_to t from)) squares

abbrev pub if_taken_on : Parts → Option Square → Option Square
if_taken_on p None = None
if_taken_on p (Some t) = if is_taken_on p t then Some t else None

-- the en passant target, if a legal move takes a pawn there
abbrev pub usable_target : Parts → Option Square
usable_target p = if_taken_on p p.target

-- Two positions are the same. The same pieces are on the same squares, and the same side is to
-- move. Each side has the same rights to castle that can still be used, and the same moves take a
-- pawn en passant. (FIDE 9.2.3)
pub record SamePosition (p q : Parts) : Type 0 where
  pub board : p.board ≡ q.board
  pub side : p.side ≡ q.side
  pub rights : usable_rights p ≡ usable_rights q
  pub en_passant : (m : Move) → takes_en_passant p m ≡ takes_en_passant q m

-- The key: the first four fields of a FEN, with the rights and the target that can still be used.
abbrev pub position_key : Parts → List ℕ
position_key p =
    join_with_byte 32
    (placement_text p.board ∷ side_text p.side ∷ rights_text (usable_rights p) ∷ target_text (usable_target p) ∷ [])

-- the pawns of the side to move that attack t
abbrev pub attackers : Parts → Square → List Square
attackers p t = filter (λ s. own p Pawn s && attacks p.board s t) squares

abbrev pub pairs_on : Parts → Option Square → ℕ
pairs_on p None = 0
pairs_on p (Some t) = if is_empty p.board t then length (attackers p t) else 0

-- how many pairs are tried for the key: one for each pawn that may take on the target
abbrev pub key_pairs : Parts → ℕ
key_pairs p = pairs_on p p.target

-- The laws.

-- two positions have the same key exactly if they are the same
abbrev pub KeysTell : Type 0
KeysTell =
    (p q : Parts) → IsTrue (is_position p) → IsTrue (is_position q)
    → (position_key p ≡ position_key q) ↔ SamePosition p q

-- in two positions that are the same the same moves are legal
abbrev pub SameMovesLegal : Type 0
SameMovesLegal = (p q : Parts) → SamePosition p q → (m : Move) → is_legal p m ≡ is_legal q m
