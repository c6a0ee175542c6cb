-- **Definition**: the white space that stands for the bytes before a lexer begins.
use Rattle.std.specs.Prelude.{ℕ, zero, suc, Bool, List, [], ◌∷◌, ◌++◌, replicate, if◌then◌else◌}

-- So many bytes of white space. They are spaces, but for the last one: it is a line feed if the
-- place behind it is in the first column, where a percent sign begins an escape line (PGN 6).
abbrev pub white_space : ℕ → Bool → List ℕ
white_space zero in_first_column = []
white_space (suc n) in_first_column = replicate n 32 ++ (if in_first_column then 10 else 32) ∷ []
