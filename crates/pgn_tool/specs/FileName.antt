-- **Definition**: the names of the files of games, and their paths.
use Rattle.std.specs.Prelude.{ℕ, ◌-◌, ◌==◌, List, [], ◌++◌, drop, length, slice_get, codes, decimal, Option, None, Some, if◌then◌else◌}

-- the zeros before a number of so many digits, so that it has at least six
abbrev pub zeros_before : ℕ → List ℕ
zeros_before digits = drop digits (codes "000000")

-- the name of the file of a game: its number with at least six digits, and `.pgn`
abbrev pub file_name : ℕ → List ℕ
file_name number = zeros_before (length (decimal number)) ++ decimal number ++ codes ".pgn"

-- The slash between a folder and a name, by the last byte of the folder. There is none if the
-- folder has no bytes, which is the current one, or ends in a slash.
abbrev pub slash_behind : Option ℕ → List ℕ
slash_behind None = []
slash_behind (Some byte) = if byte == 47 then [] else codes "/"

-- the path of a name in a folder
abbrev pub path_in : List ℕ → List ℕ → List ℕ
path_in folder name = folder ++ slash_behind (slice_get folder (length folder - 1)) ++ name
