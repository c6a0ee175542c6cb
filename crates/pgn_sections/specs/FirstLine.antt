-- **Bookkeeping**: how the code finds the end of the first whole line.
use Rattle.std.specs.Prelude.{ℕ, ◌+◌, Bool, ◌&&◌, nat_lt, List, [], ◌∷◌, Option, None, Some, ◌==◌, if◌then◌else◌}

-- A CR with so many bytes before it and this text behind it ends a line. At the end of a text that
-- goes on it may be the first half of CR LF.
abbrev pub line_to_return : Bool → ℕ → List ℕ → Option ℕ
line_to_return is_last n [] = if is_last then Some (n + 1) else None
line_to_return is_last n (b ∷ s) = Some (if b == 10 then n + 1 + 1 else n + 1)

-- the length of the line, of which so many bytes are before this text
abbrev pub line_from : Bool → ℕ → List ℕ → Option ℕ
line_from is_last n [] = if is_last && nat_lt 0 n then Some n else None
line_from is_last n (b ∷ s) =
    if b == 10 then Some (n + 1) else if b == 13 then line_to_return is_last n s else line_from is_last (n + 1) s
