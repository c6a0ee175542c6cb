-- **Definition**: squares, and how they lie to one another (FIDE 2.1, 2.4; PGN 8.2.3.1).
use Rattle.std.specs.Prelude.{ℕ, ◌+◌, ◌-◌, Bool, ◌&&◌, ◌||◌, not, List, map, flat_map, ◌==◌, nat_lt, nat_le}
use Rattle.std.specs.List.{range_with_len}

-- the file from 0 (a) to 7 (h), the rank from 0 (1) to 7 (8)
pub record Square : Type 0 where
  pub file : ℕ
  pub rank : ℕ

abbrev pub square : ℕ → ℕ → Square
square file rank = record { file = file; rank = rank }

abbrev pub on_board : Square → Bool
on_board s = nat_lt s.file 8 && nat_lt s.rank 8

abbrev pub same_square : Square → Square → Bool
same_square s t = (s.file == t.file) && (s.rank == t.rank)

-- the files, or the ranks: 0 to 7
abbrev pub lines : List ℕ
lines = range_with_len 0 8

-- all 64 squares, from a1, b1 to h8
unfoldable pub squares : List Square
squares = flat_map (λ rank. map (λ file. square file rank) lines) lines

-- how far apart two numbers are
abbrev pub gap : ℕ → ℕ → ℕ
gap a b = (a - b) + (b - a)

-- x lies strictly between a and b
abbrev pub inside : ℕ → ℕ → ℕ → Bool
inside a x b = (nat_lt a x && nat_lt x b) || (nat_lt b x && nat_lt x a)

-- s and t are two squares of one rank or of one file
abbrev pub in_line : Square → Square → Bool
in_line s t = ((s.rank == t.rank) || (s.file == t.file)) && not (same_square s t)

-- s and t are two squares of one diagonal: as many files apart as ranks
abbrev pub on_diagonal : Square → Square → Bool
on_diagonal s t = (gap s.file t.file == gap s.rank t.rank) && not (same_square s t)

-- s, u and t are on one rank, and the file of u lies strictly between
abbrev pub between_on_rank : Square → Square → Square → Bool
between_on_rank s u t = (s.rank == t.rank) && ((u.rank == s.rank) && inside s.file u.file t.file)

abbrev pub between_on_file : Square → Square → Square → Bool
between_on_file s u t = (s.file == t.file) && ((u.file == s.file) && inside s.rank u.rank t.rank)

-- s and t are on one diagonal, s and u are on one, and both the file and the rank of u lie strictly
-- between
abbrev pub between_on_diagonal : Square → Square → Square → Bool
between_on_diagonal s u t =
    (on_diagonal s t && on_diagonal s u) && (inside s.file u.file t.file && inside s.rank u.rank t.rank)

-- s and t are two squares side by side, on a rank, a file or a diagonal
abbrev pub is_adjacent : Square → Square → Bool
is_adjacent s t = (nat_le (gap s.file t.file) 1 && nat_le (gap s.rank t.rank) 1) && not (same_square s t)

-- a knight's jump apart: one file and two ranks, or two files and one rank
abbrev pub is_jump : Square → Square → Bool
is_jump s t =
    ((gap s.file t.file == 1) && (gap s.rank t.rank == 2)) || ((gap s.file t.file == 2) && (gap s.rank t.rank == 1))

-- u lies strictly between s and t on their rank, their file or their diagonal
abbrev pub strictly_between : Square → Square → Square → Bool
strictly_between s u t = between_on_rank s u t || (between_on_file s u t || between_on_diagonal s u t)
