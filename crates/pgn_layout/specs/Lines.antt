-- **Definition**: movetext tokens on lines (PGN 8.2.1).
-- They are in order, with a single space between two, and at most 79 bytes a line.
use Rattle.std.specs.Prelude.{◌≡◌, ℕ, ◌+◌, ◌<◌, ◌≤◌, Bool, true, false, List, [], ◌∷◌, ◌++◌, map, length, nat_le}

-- the tokens of one line: the first, and those after it
pub record Line : Type 0 where
  pub first : List ℕ
  pub others : List (List ℕ)

abbrev pub tokens_on : Line → List (List ℕ)
tokens_on l = l.first ∷ l.others

-- each token after a space
abbrev pub spaced : List (List ℕ) → List ℕ
spaced [] = []
spaced (t ∷ ts) = (32 ∷ t) ++ spaced ts

-- the tokens joined by single spaces
abbrev pub text_on : Line → List ℕ
text_on l = l.first ++ spaced l.others

-- Each line has at most 79 bytes. With a space and the first token of the next line it would have
-- more.
abbrev pub AreFull : List Line → Type 0
AreFull [] = Unit {0}
AreFull (l ∷ []) = length (text_on l) ≤ 79
AreFull (l ∷ m ∷ ls) = (length (text_on l) ≤ 79) × (79 < length (text_on l) + 1 + length m.first) × AreFull (m ∷ ls)

-- the tokens of all the lines, in order
abbrev pub tokens_over : List Line → List (List ℕ)
tokens_over [] = []
tokens_over (l ∷ ls) = tokens_on l ++ tokens_over ls

-- These are the lines of the tokens: the tokens are on them in order, and each line is as full as
-- it can be.
pub record Lines (tokens : List (List ℕ)) (lines : List (List ℕ)) : Type 0 where
  pub parts : List Line
  pub in_order : tokens_over parts ≡ tokens
  pub texts : map text_on parts ≡ lines
  pub full : AreFull parts

-- a token that fits on a line: not empty, and at most 79 bytes
pub record IsToken (t : List ℕ) : Type 0 where
  pub not_empty : 0 < length t
  pub fits : length t ≤ 79

-- there is room on the line for a space and the token
abbrev pub has_room : List ℕ → List ℕ → Bool
has_room line token = nat_le (length line + 1 + length token) 79

-- the lines of a line that is begun and the tokens after it
abbrev pub lines_from : List ℕ → List (List ℕ) → List (List ℕ)
lines_from line [] = line ∷ []
lines_from line (t ∷ ts) = elim (has_room line t) [ true ↦ lines_from (line ++ 32 ∷ t) ts | false ↦ line ∷ lines_from t ts ]

-- the lines of the tokens
abbrev pub lines_of : List (List ℕ) → List (List ℕ)
lines_of [] = []
lines_of (t ∷ ts) = lines_from t ts

-- all lines but the last
abbrev pub full_lines : List (List ℕ) → List (List ℕ)
full_lines [] = []
full_lines (l ∷ []) = []
full_lines (l ∷ m ∷ ls) = l ∷ full_lines (m ∷ ls)

-- the last line, or the empty one
abbrev pub last_line : List (List ℕ) → List ℕ
last_line [] = []
last_line (l ∷ []) = l
last_line (l ∷ m ∷ ls) = last_line (m ∷ ls)

-- the lines, each with LF
abbrev pub text_of : List (List ℕ) → List ℕ
text_of [] = []
text_of (l ∷ ls) = (l ++ 10 ∷ []) ++ text_of ls
