-- **Bookkeeping**: the text of a rank, as a writer of FENs keeps it.
use Rattle.std.specs.Prelude.{◌≡◌, ◌≤◌, List, length, take}
use Rattle.std.specs.List.{All}
use Rattle.chess_rules.specs.Board.{Board}
use Rattle.chess_rules.specs.RankNumbers.{numbers, word_of_bytes}
use Rattle.chess_text.specs.Placement.{rank_text}
use Rattle.chess_text.specs.declared.fen_writer.WrittenRank.{WrittenRank}

-- the text of these squares, beside their numbers
pub record IsTextOf (cells : Board) (written : WrittenRank) : Type 0 where
  pub word : written.numbers ≡ word_of_bytes (numbers 0 cells)
  pub text : take written.length written.bytes ≡ rank_text 0 cells
  pub short : written.length ≤ 8
  pub long : length written.bytes ≡ 8

-- the text of some rank
pub record IsTextOfRank (written : WrittenRank) : Type 0 where
  pub cells : Board
  pub eight : length cells ≡ 8
  pub is_text : IsTextOf cells written

-- the texts of eight ranks
pub record AreTexts (ranks : List WrittenRank) : Type 0 where
  pub each : All IsTextOfRank ranks
  pub eight : length ranks ≡ 8
