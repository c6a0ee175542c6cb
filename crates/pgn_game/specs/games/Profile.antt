-- **Definition**: what a caller asks for: two limits, a format, and what a missing Result is.
use Rattle.std.specs.Prelude.{ℕ, List, []}
use Rattle.pgn_game.specs.declared.mode.Mode.{Mode}

-- what a game without a Result pair has in its place: always this text, or the marker that ends the
-- game
pub data Missing : Type 0 where
  counts_as : List ℕ → Missing
  takes_the_marker : Missing

-- what is known of a missing Result before the marker: its text, or nothing
abbrev pub known_result : Missing → List ℕ
known_result (counts_as text) = text
known_result takes_the_marker = []

-- the most tag pairs of a game, the greatest depth of variations, which parts are written, and what
-- a missing Result is
pub record Profile : Type 0 where
  pub tags : ℕ
  pub depth : ℕ
  pub mode : Mode
  pub missing_result : Missing

-- the same profile with another missing Result
abbrev pub with_missing : Profile → Missing → Profile
with_missing p missing = record { tags = p.tags; depth = p.depth; mode = p.mode; missing_result = missing }

-- the same profile, in which a missing Result counts as this text
abbrev pub counting : Profile → List ℕ → Profile
counting p text = with_missing p (counts_as text)
