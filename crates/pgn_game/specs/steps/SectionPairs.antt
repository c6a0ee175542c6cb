-- **Bookkeeping**: the pairs of a tag section one by one, by their index.
use Rattle.std.specs.Prelude.{◌≡◌, ℕ, ◌+◌, ◌-◌, ◌==◌, Bool, true, false, ◌||◌, ◌&&◌, not, List, drop, filter, length, slice_get, bytes_eq, codes, Option, None, Some, Result, Ok, Err}
use Rattle.std.specs.Borrow.{Bor}
use Rattle.pgn_game.specs.games.Pairs.{Pair}
use Rattle.pgn_game.specs.export.TagSection.{in_roster}
use Rattle.pgn_game.specs.public.NameAndValue.{pair_of}

-- Whether a pair is written outside the roster, where it is. A SetUp is not if there is a FEN,
-- whose own SetUp is written instead.
abbrev pub is_other : Bool → Pair → Bool
is_other has_fen p = not (in_roster p.name || (has_fen && bytes_eq p.name (codes "SetUp")))

abbrev pub others : Bool → List Pair → List Pair
others has_fen ps = filter (is_other has_fen) ps

-- the pair at this index, or how many more there would have to be
abbrev pub NthResult : List Pair → ℕ → Result (Bor (List ℕ) × Bor (List ℕ)) ℕ → Type 0
NthResult ps index (Ok both) = slice_get ps index ≡ Some (pair_of both)
NthResult ps index (Err left) = length ps + left ≡ index

-- How many pairs are left to pass behind one, if it counts. `None` if none was left.
abbrev pub left_behind : Bool → ℕ → Option ℕ
left_behind false left = Some left
left_behind true left = elim (left == 0) [ true ↦ None | false ↦ Some (left - 1) ]

-- Of the pairs from this one on, so many are left to pass.
pub record IsPassing (has_fen : Bool) (ps : List Pair) (index at left : ℕ) : Type 0 where
  pub count : length (others has_fen ps) + left ≡ index + length (others has_fen (drop at ps))
  pub same : slice_get (others has_fen ps) index ≡ slice_get (others has_fen (drop at ps)) left
