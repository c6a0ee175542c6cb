-- **Definition**: a tag pair on a line of its own (PGN 8.1).
use Rattle.std.specs.Prelude.{ℕ, Bool, ◌||◌, List, [], ◌∷◌, ◌++◌, ◌==◌, if◌then◌else◌, codes}

-- a quote or a backslash (PGN 7)
abbrev pub needs_escape : ℕ → Bool
needs_escape b = (b == 34) || (b == 92)

-- a byte, with a backslash before it where it needs one
abbrev pub escape_of : ℕ → List ℕ
escape_of b = (if needs_escape b then 92 ∷ b ∷ [] else b ∷ [])

-- each byte so
abbrev pub escaped : List ℕ → List ℕ
escaped [] = []
escaped (b ∷ bs) = escape_of b ++ escaped bs

-- `[Name "value"]` and LF
abbrev pub tag_line : List ℕ → List ℕ → List ℕ
tag_line name value = codes "[" ++ name ++ codes " \"" ++ escaped value ++ codes "\"]\n"
