-- **Definition**: classes of bytes (PGN 4, 7).
use Rattle.std.specs.Prelude.{ℕ, Bool, ◌||◌, ◌&&◌, not, nat_le, ◌==◌}

-- line feed (PGN 3.2.2), and, by our choice, carriage return
abbrev pub is_line_end : ℕ → Bool
is_line_end b = (b == 10) || (b == 13)

-- tabulators (9, 11), form feed (12) and space (32)
abbrev pub is_blank : ℕ → Bool
is_blank b = (b == 9) || (b == 11) || (b == 12) || (b == 32)

-- white space (PGN 4.1, 7)
abbrev pub is_space : ℕ → Bool
is_space b = is_line_end b || is_blank b

-- the bytes below 32 that are no white space, and delete (PGN 4.1)
abbrev pub is_control : ℕ → Bool
is_control b = nat_le b 8 || (nat_le 14 b && nat_le b 31) || (b == 127)

-- 0 (48) to 9 (57)
abbrev pub is_digit : ℕ → Bool
is_digit b = nat_le 48 b && nat_le b 57

-- A (65) to Z (90), and a (97) to z (122)
abbrev pub is_letter : ℕ → Bool
is_letter b = (nat_le 65 b && nat_le b 90) || (nat_le 97 b && nat_le b 122)

-- a symbol begins with a letter or a digit (PGN 7)
abbrev pub starts_symbol : ℕ → Bool
starts_symbol b = is_letter b || is_digit b

-- A symbol continues with letters, digits, _ (95), + (43), # (35), = (61), : (58) and - (45) (PGN
-- 7), and, by our choice, with / (47) for a draw.
abbrev pub continues_symbol : ℕ → Bool
continues_symbol b = starts_symbol b || (b == 95) || (b == 43) || (b == 35) || (b == 61) || (b == 58) || (b == 45) || (b == 47)

-- ! and ? (PGN 8.2.3.8)
abbrev pub is_suffix : ℕ → Bool
is_suffix b = (b == 33) || (b == 63)

-- A word of a comment has bytes 33 to 126 without the closing brace, and those from 128 on (PGN 5);
-- % { ; are plain there, the first by our choice.
abbrev pub continues_word : ℕ → Bool
continues_word b = (nat_le 33 b && nat_le b 126 && not (b == 125)) || nat_le 128 b
