-- **Bookkeeping**: what a position stores: its parts, both kings' squares, and whether it is check.
-- No rule of play rests on it.
use Rattle.std.specs.Prelude.{◌≡◌, IsTrue}
use Rattle.std.proofs.Common.{ap, ap₂, sym, ◌∙◌}
use Rattle.chess_rules.specs.declared.position.Parts.{Parts}
use Rattle.chess_rules.specs.declared.position.Position.TheInside.{Inside}
use Rattle.chess_rules.specs.Board.{other}
use Rattle.chess_rules.specs.Legal.{is_check}
use Rattle.chess_rules.specs.Reach.{king_square}
use Rattle.chess_rules.specs.Position.{is_position}

-- the parts among what is stored
abbrev pub parts_of : Inside → Parts
parts_of p = record { board = p.board; side = p.side; rights = p.rights; target = p.target; half = p.half; full = p.full }

-- The parts are a position. Its kings are on the stored squares, and `checked` says whether it is
-- check.
pub record FitsPosition (p : Inside) : Type 0 where
  pub position : IsTrue (is_position (parts_of p))
  pub king : p.king ≡ king_square p.side p.board
  pub other_king : p.other_king ≡ king_square (other p.side) p.board
  pub checked : p.checked ≡ is_check (parts_of p)

-- what is stored for these parts
abbrev pub store_of : Parts → Inside
store_of p =
    record {
      board = p.board;
      side = p.side;
      rights = p.rights;
      target = p.target;
      half = p.half;
      full = p.full;
      king = king_square p.side p.board;
      other_king = king_square (other p.side) p.board;
      checked = is_check p;
    }

-- the parts of a stored position decide all that it stores
pub store_of_parts : (a : Inside) → FitsPosition a → store_of (parts_of a) ≡ a
store_of_parts a h =
    ap₂ (λ x y. record a { king = x; other_king = y; checked = is_check (parts_of a) }) (sym h.king) (sym h.other_king)
    ∙ ap (λ x. record a { checked = x }) (sym h.checked)
