-- **Definition**: what the text of a move is as a symbol of PGN, and what it is not.
-- It is no move number (PGN 8.2.2) and no termination marker (PGN 8.2.6). The laws that say so are
-- here too (PGN 7, 8.2.3).
use Rattle.std.specs.Prelude.{◌≡◌, ℕ, ◌≤◌, Bool, false, ◌&&◌, ◌||◌, List, [], ◌∷◌, Some, Ok, option_map, length, bytes_eq, codes, nat_le, ◌==◌, IsTrue, IsFalse}
use Rattle.std.specs.List.{list_all}
use Rattle.chess_rules.specs.declared.position.Move.{Move}
use Rattle.chess_rules.specs.declared.position.Parts.{Parts}
use Rattle.chess_rules.specs.Position.{is_position}
use Rattle.chess_rules.specs.Legal.{legal, is_legal}
use Rattle.chess_text.specs.Field.{is_digit}
use Rattle.chess_text.specs.Form.{form_of}
use Rattle.chess_text.specs.MoveOfForm.{move_of_form}
use Rattle.chess_text.specs.San.{san}

abbrev pub is_letter : ℕ → Bool
is_letter c = (nat_le 65 c && nat_le c 90) || (nat_le 97 c && nat_le c 122)

-- letters, digits and + # = -
abbrev pub is_move_byte : ℕ → Bool
is_move_byte c =
    is_letter c || is_digit c || (c == 43) || (c == 35) || (c == 61) || (c == 45)

abbrev pub begins_with_letter : List ℕ → Bool
begins_with_letter [] = false
begins_with_letter (c ∷ s) = is_letter c

abbrev pub is_marker : List ℕ → Bool
is_marker s =
    bytes_eq s (codes "1-0") || bytes_eq s (codes "0-1") || bytes_eq s (codes "1/2-1/2")
    || bytes_eq s (codes "*")

-- A symbol that can be a move: it begins with a letter, and has letters, digits and + # = - alone,
-- at most seven. So it has no digits alone, as a number has, and is no marker.
pub record IsMoveSymbol (s : List ℕ) : Type 0 where
  pub begins : IsTrue (begins_with_letter s)
  pub bytes : IsTrue (list_all is_move_byte s)
  pub fits : length s ≤ 7
  pub no_number : IsFalse (list_all is_digit s)
  pub no_marker : IsFalse (is_marker s)

-- The text of a legal move is such a symbol.
abbrev pub WrittenMoveIsSymbol : Type 0
WrittenMoveIsSymbol = (p : Parts) (m : Move) → IsTrue (is_legal p m) → IsMoveSymbol (san p m)

-- The text of a legal move is read as this move, with the position after it.
abbrev pub WrittenMoveIsRead : Type 0
WrittenMoveIsRead =
    (p q : Parts) (m : Move) → IsTrue (is_position p) → legal p m ≡ Some q
    → option_map (move_of_form p) (form_of (san p m)) ≡ Some (Ok (record { mv = m; next = q }))
