-- **Bookkeeping**: how tag pairs are stored.
-- They lie as they were read. The order of their names is kept beside them. The one whose value is
-- still to come lies behind those that are complete. Behind these may be pairs of earlier games,
-- which no contract sees.
use Rattle.std.specs.Prelude.{ℕ, ◌+◌, ◌≤◌, ◌<◌, ◌≡◌, IsTrue, IfSome, Bool, true, false, codes, List, [], ◌∷◌, length, drop, map, slice_index_or, Option, None, Some, Result, Ok, Err}
use Rattle.std.specs.Borrow.{Bor}
use Rattle.std.specs.List.{AllByRecursion}
use Rattle.std.specs.Option.{option_copied}
use Rattle.pgn_layout.specs.TagLine.{escaped}
use Rattle.pgn_game.specs.games.Pairs.{Pair, comes_before, has_pair, value_of}

-- what a contract sees: the complete pairs, and the name that waits for its value
pub record TagPairs : Type 0 where
  pub held : List Pair
  pub pending_name : Option (List ℕ)

-- the pair that is stored at a place, or an empty one
abbrev pub pair_at : List Pair → ℕ → Pair
pair_at ps i = slice_index_or ps i (record { name = []; value = [] })

-- the pairs that are stored at these places
abbrev pub placed : List Pair → List ℕ → List Pair
placed ps order = map (pair_at ps) order

-- what a contract sees of these pairs, and of the pair p after them, if it has begun
abbrev pub pairs_seen : List Pair → Pair → Bool → TagPairs
pairs_seen held p true = record { held = held; pending_name = Some p.name }
pairs_seen held p false = record { held = held; pending_name = None }

-- the index that a name has in the order of names: how many pairs come before it
abbrev pub index_of : List ℕ → List Pair → ℕ
index_of name [] = 0
index_of name (p ∷ ps) = elim (comes_before name p.name) [ true ↦ 0 | false ↦ 1 + index_of name ps ]

-- the names of these pairs come after this one
abbrev pub AllAfter : List ℕ → List Pair → Type 0
AllAfter name qs = AllByRecursion (λ q. comes_before name q.name ≡ true) qs

-- the pairs are in the order of their names, and no name is there twice
abbrev pub InOrder : List Pair → Type 0
InOrder [] = Unit {0}
InOrder (q ∷ qs) = AllAfter q.name qs × InOrder qs

-- the places are below this one
abbrev pub AllBelow : ℕ → List ℕ → Type 0
AllBelow n order = AllByRecursion (λ i. i < n) order

-- these are places of pairs, in the order of the names there
pub record AreInOrder (ps : List Pair) (order : List ℕ) : Type 0 where
  pub within : AllBelow (length ps) order
  pub in_order : InOrder (placed ps order)

-- the pair after the complete ones has begun: its name is new among theirs, and `place` is its
-- index in their order
pub record HasBegun (ps : List Pair) (order : List ℕ) (place : ℕ) : Type 0 where
  pub within : length order < length ps
  pub new : has_pair (placed ps order) (pair_at ps (length order)).name ≡ false
  pub index : place ≡ index_of (pair_at ps (length order)).name (placed ps order)

-- How the pairs are stored: at most so many. The first belong to the game, one for each place in
-- the order. Whether a FEN is one of these is stored.
pub record FitsPairStore (most : ℕ) (ps : List Pair) (order : List ℕ) (place : ℕ) (has_pending_name has_fen : Bool) : Type 0 where
  pub room : length ps ≤ most
  pub within : length order ≤ length ps
  pub first : AllBelow (length order) order
  pub in_order : InOrder (placed ps order)
  pub begun : IsTrue has_pending_name → HasBegun ps order place
  pub fen : has_fen ≡ has_pair (placed ps order) (codes "FEN")

-- the bytes of one pair are its name, of this length, and its value; both fit on their line
pub record FitsOnLine (name_length : ℕ) (text : List ℕ) : Type 0 where
  pub named : name_length ≤ length text
  pub short : name_length + length (escaped (drop name_length text)) ≤ 249

-- Calls of the store.

-- n of these pairs come before a name or have it; they are in order
pub record IndexResult (ps : List Pair) (name : List ℕ) (n : ℕ) : Type 0 where
  pub index : n ≡ index_of name ps
  pub within : n ≤ length ps
  pub order : InOrder ps

-- the pair with n others before it is the one of a name
pub record IsFound (ps : List Pair) (name : List ℕ) (n : ℕ) : Type 0 where
  pub within : n < length ps
  pub named : (pair_at ps n).name ≡ name
  pub value : value_of ps name ≡ Some (pair_at ps n).value

-- no pair has the name, and n come before it
pub record IsNewName (ps : List Pair) (name : List ℕ) (n : ℕ) : Type 0 where
  pub new : has_pair ps name ≡ false
  pub place : n ≡ index_of name ps

-- the index of the pair of a name, or as the error how many pairs come before the name
abbrev pub FindResult : List Pair → List ℕ → Result ℕ ℕ → Type 0
FindResult ps name (Ok n) = IsFound ps name n
FindResult ps name (Err n) = IsNewName ps name n

-- the value of a name, if one of the pairs has it; both fit on their line
pub record ValueResult (ps : List Pair) (name : List ℕ) (r : Option (Bor (List ℕ))) : Type 0 where
  pub value : option_copied r ≡ value_of ps name
  pub fits : IfSome r (λ value. length name + length (escaped value.now) ≤ 249)

-- A name can be added: no other waits for its value, there is room, it fits on a line, it is new,
-- and n pairs come before it.
pub record MayBegin (most : ℕ) (tags : TagPairs) (name : List ℕ) (n : ℕ) : Type 0 where
  pub whole : tags.pending_name ≡ None
  pub room : length tags.held < most
  pub fits : length name ≤ 249
  pub new : has_pair tags.held name ≡ false
  pub place : n ≡ index_of name tags.held
