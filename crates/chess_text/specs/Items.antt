-- **Bookkeeping**: what each byte of a FEN's first field means, as the code has it in a table.
use Rattle.std.specs.Prelude.{ℕ, ◌-◌, is_some, if◌then◌else◌}
use Rattle.chess_rules.specs.Words.{lanes_of}
use Rattle.chess_text.specs.Letter.{piece_of}
use Rattle.chess_text.specs.Placement.{is_run}
use Rattle.chess_text.specs.declared.item.Item.{Item}

-- The lanes of the first square, and how many squares there are. Those behind the first are empty.
-- A byte that means none has nine, more than a rank has.
abbrev pub item : ℕ → Item
item c = record { lanes = lanes_of (piece_of c); width = if is_run c then c - 48 else if is_some (piece_of c) then 1 else 9 }
