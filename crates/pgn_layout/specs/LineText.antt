-- **Definition**: tokens in order, each with the one byte after it, as lines have them (PGN 8.2.1).
use Rattle.std.specs.Prelude.{ℕ, Bool, ◌||◌, ◌==◌, IsTrue, List, [], ◌∷◌, ◌++◌}

-- a space (32) or LF (10)
abbrev pub is_gap : ℕ → Bool
is_gap b = (b == 32) || (b == 10)

-- The text is the tokens in order, each followed by one byte, which is a space or LF.
pub data IsTextOf : List (List ℕ) → List ℕ → Type 0 where
  no_token : IsTextOf [] []
  next_token : (t : List ℕ) (b : ℕ) (ts : List (List ℕ)) (s : List ℕ) → IsTrue (is_gap b)
      → IsTextOf ts s → IsTextOf (t ∷ ts) (t ++ b ∷ s)
