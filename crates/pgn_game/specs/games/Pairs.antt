-- **Definition**: tag pairs (PGN 8.1).
use Rattle.std.specs.Prelude.{ℕ, Bool, true, false, ◌||◌, ◌&&◌, nat_lt, ◌==◌, List, [], ◌∷◌, Option, None, Some, is_some, bytes_eq}

pub record Pair : Type 0 where
  pub name : List ℕ
  pub value : List ℕ

-- the value of the first pair of this name
abbrev pub value_of : List Pair → List ℕ → Option (List ℕ)
value_of [] name = None
value_of (p ∷ ps) name = elim (bytes_eq p.name name) [ true ↦ Some p.value | false ↦ value_of ps name ]

-- whether there is a pair of this name
abbrev pub has_pair : List Pair → List ℕ → Bool
has_pair ps name = is_some (value_of ps name)

-- the order of ASCII, byte after byte (PGN 8.1.1)
abbrev pub comes_before : List ℕ → List ℕ → Bool
comes_before a [] = false
comes_before [] (y ∷ ys) = true
comes_before (x ∷ xs) (y ∷ ys) = nat_lt x y || ((x == y) && comes_before xs ys)

-- The pairs with one more, which comes before the first pair with a later name. So pairs stay in
-- the order of their names.
abbrev pub insert_pair : Pair → List Pair → List Pair
insert_pair p [] = p ∷ []
insert_pair p (q ∷ qs) = elim (comes_before p.name q.name) [ true ↦ p ∷ q ∷ qs | false ↦ q ∷ insert_pair p qs ]
