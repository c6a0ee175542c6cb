-- **Definition**: what a contract sees of a name and a value that a call returns.
use Rattle.std.specs.Prelude.{List, ℕ}
use Rattle.std.specs.Borrow.{Bor}
use Rattle.pgn_game.specs.games.Pairs.{Pair}

-- the tag pair that they are
abbrev pub pair_of : Bor (List ℕ) × Bor (List ℕ) → Pair
pair_of both = record { name = both.0.now; value = both.1.now }
