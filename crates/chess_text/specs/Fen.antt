-- **Definition**: a position as text, the FEN (PGN 16.1).
use Rattle.std.specs.Prelude.{◌≡◌, ℕ, zero, suc, ◌-◌, Bool, List, [], ◌∷◌, Option, None, Some, Result, Ok, Err, length, reverse, flat_map, decimal, ◌==◌, if◌then◌else◌, IsTrue}
use Rattle.std.specs.List.{list_all, before_first, after_first, join_with_byte}
use Rattle.chess_rules.specs.declared.piece.Colour.{Colour}
use Rattle.chess_rules.specs.declared.position.Rights.{Rights}
use Rattle.chess_rules.specs.declared.position.Parts.{Parts}
use Rattle.chess_rules.specs.Square.{Square}
use Rattle.chess_rules.specs.Board.{Board}
use Rattle.chess_rules.specs.Position.{is_position}
use Rattle.chess_text.specs.declared.fen.FenFault.{FenFault}
use Rattle.chess_text.specs.Placement.{is_rank, cells_of, placement_of, placement_text}
use Rattle.chess_text.specs.Field.{side_text, side_of, rights_text, rights_of, target_text, target_of, is_number, value, number_of}

-- What a FEN is: six texts joined by single spaces, each a spelling of its part. (16.1.3)

-- eight ranks joined by slashes, rank 8 first, each digits and letters for exactly 8 squares
-- (16.1.3.1)
pub record SpellsBoard (s : List ℕ) (b : Board) : Type 0 where
  pub rank_texts : List (List ℕ)
  pub joined : s ≡ join_with_byte 47 rank_texts
  pub eight : length rank_texts ≡ 8
  pub each : IsTrue (list_all is_rank rank_texts)
  pub cells : b ≡ flat_map cells_of (reverse rank_texts)

-- 1 to 5 digits of that value (16.1.3.5, 16.1.3.6)
pub record SpellsNumber (s : List ℕ) (n : ℕ) : Type 0 where
  pub digits_alone : IsTrue (is_number s)
  pub number : n ≡ value s

-- s is a FEN of the position p
pub record Fen (s : List ℕ) (p : Parts) : Type 0 where
  pub board : List ℕ
  pub half : List ℕ
  pub full : List ℕ
  pub joined : s ≡ join_with_byte 32 (board ∷ side_text p.side ∷ rights_text p.rights ∷ target_text p.target ∷ half ∷ full ∷ [])
  pub spells_board : SpellsBoard board p.board
  pub spells_half : SpellsNumber half p.half
  pub spells_full : SpellsNumber full p.full
  pub position : IsTrue (is_position p)

-- The same as a function of the text.

abbrev pub is_space : ℕ → Bool
is_space c = c == 32

-- the text after the first k spaces
abbrev pub rest : ℕ → List ℕ → List ℕ
rest zero s = s
rest (suc k) s = rest k (after_first is_space s)

-- Field k from 1 to 5 is the text before the next space, and field 6 all the rest. A missing field
-- is empty.
abbrev pub field : ℕ → List ℕ → List ℕ
field k s = if k == 6 then rest 5 s else before_first is_space (rest (k - 1) s)

abbrev pub at_field : ℕ → Result Parts FenFault
at_field k = Err (record { field = k })

-- the parts, or the lowest field that is no spelling
abbrev pub parts_or_fault : Option Board → Option Colour → Option Rights → Option (Option Square) → Option ℕ → Option ℕ → Result Parts FenFault
parts_or_fault None side rights target half full = at_field 1
parts_or_fault (Some board) None rights target half full = at_field 2
parts_or_fault (Some board) (Some side) None target half full = at_field 3
parts_or_fault (Some board) (Some side) (Some rights) None half full = at_field 4
parts_or_fault (Some board) (Some side) (Some rights) (Some target) None full = at_field 5
parts_or_fault (Some board) (Some side) (Some rights) (Some target) (Some half) None = at_field 6
parts_or_fault (Some board) (Some side) (Some rights) (Some target) (Some half) (Some full) =
    Ok (record { board = board; side = side; rights = rights; target = target; half = half; full = full })

abbrev pub parts_read : List ℕ → Result Parts FenFault
parts_read s =
    parts_or_fault (placement_of (field 1 s)) (side_of (field 2 s)) (rights_of (field 3 s)) (target_of (field 4 s)) (number_of (field 5 s)) (number_of (field 6 s))

-- parts that break a rule of positions are reported as field 7
abbrev pub if_position : Result Parts FenFault → Result Parts FenFault
if_position (Ok p) = if is_position p then Ok p else at_field 7
if_position (Err fault) = Err fault

-- the position that the text spells, or the field at fault
abbrev pub read : List ℕ → Result Parts FenFault
read s = if_position (parts_read s)

-- the canonical text: the longest runs of empty squares, and no leading zeros
abbrev pub fen_text : Parts → List ℕ
fen_text p =
    join_with_byte 32
    (placement_text p.board ∷ side_text p.side ∷ rights_text p.rights ∷ target_text p.target ∷ decimal p.half ∷ decimal p.full ∷ [])
