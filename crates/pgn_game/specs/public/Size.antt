-- **Definition**: that a converter fits in memory, or one of two readings: it takes fewer than
-- 2 ^ 63 bytes.
use Rattle.std.specs.Mem.{FitsInMemory}
use Rattle.std.specs.Borrow.{RattleType}
use Rattle.pgn_game.specs.contracts.converter.Converter.{the_row}
use Rattle.pgn_game.specs.contracts.checked.Reading.{the_row as reading_row}

-- a converter fits in memory
abbrev pub Holds : RattleType → RattleType → Type 0
Holds T L = FitsInMemory (the_row T L)

-- one of the two readings of an input fits in memory
abbrev pub HoldsTwice : RattleType → RattleType → Type 0
HoldsTwice T L = FitsInMemory (reading_row T L)
