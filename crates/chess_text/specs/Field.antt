-- **Definition**: the fields of a FEN after the first (PGN 16.1.3.2 to 16.1.3.6).
-- They are the side to move, the castling rights, the en passant target and the two numbers.
use Rattle.std.specs.Prelude.{ℕ, ◌+◌, ◌-◌, ◌*◌, Bool, ◌&&◌, ◌||◌, List, [], ◌∷◌, ◌++◌, Option, None, Some, length, find, fold, bytes_eq, ◌==◌, nat_le, if◌then◌else◌, codes}
use Rattle.std.specs.List.{list_all, list_any}
use Rattle.chess_rules.specs.declared.piece.Colour.{Colour}
use Rattle.chess_rules.specs.declared.piece.Colour.TheVariants.{White, Black}
use Rattle.chess_rules.specs.declared.position.Rights.{Rights}
use Rattle.chess_rules.specs.Square.{Square, square}
use Rattle.chess_text.specs.Letter.{square_text}

-- Field 2: w or b. (16.1.3.2)

abbrev pub side_text : Colour → List ℕ
side_text White = codes "w"
side_text Black = codes "b"

abbrev pub side_of : List ℕ → Option Colour
side_of s = find (λ c. bytes_eq s (side_text c)) (White ∷ Black ∷ [])

-- Field 3: the letters of the castling rights, in the order KQkq, or a dash for none. (16.1.3.3)

abbrev pub or_dash : List ℕ → List ℕ
or_dash [] = codes "-"
or_dash (c ∷ s) = c ∷ s

-- The letter of one right, if the side has it: K is 75, Q is 81, k is 107, q is 113.
abbrev pub right_letter : Bool → ℕ → List ℕ
right_letter b c = if b then c ∷ [] else []

abbrev pub rights_text : Rights → List ℕ
rights_text r = or_dash (right_letter r.white_short 75 ++ right_letter r.white_long 81 ++ right_letter r.black_short 107 ++ right_letter r.black_long 113)

abbrev pub has_letter : ℕ → List ℕ → Bool
has_letter c s = list_any (λ d. d == c) s

-- the rights whose letters are in the text, in any order
abbrev pub rights_named : List ℕ → Rights
rights_named s =
    record {
      white_short = has_letter 75 s;
      white_long = has_letter 81 s;
      black_short = has_letter 107 s;
      black_long = has_letter 113 s;
    }

-- These rights, if the text is the one that is written for them. So no other order is read.
abbrev pub rights_of : List ℕ → Option Rights
rights_of s = if bytes_eq s (rights_text (rights_named s)) then Some (rights_named s) else None

-- Field 4: a square of rank 3 or 6, or a dash for none. (16.1.3.4)

abbrev pub target_text : Option Square → List ℕ
target_text None = codes "-"
target_text (Some t) = square_text t

-- The files a to h are 97 to 104, the ranks 3 and 6 are 51 and 54, and the dash below is 45.
abbrev pub is_target : ℕ → ℕ → Bool
is_target file rank = (nat_le 97 file && nat_le file 104) && ((rank == 51) || (rank == 54))

abbrev pub target_of : List ℕ → Option (Option Square)
target_of [] = None
target_of (c ∷ []) = if c == 45 then Some None else None
target_of (file ∷ rank ∷ []) = if is_target file rank then Some (Some (square (file - 97) (rank - 49))) else None
target_of (file ∷ rank ∷ c ∷ s) = None

-- Fields 5 and 6: 1 to 5 digits, with or without leading zeros. (16.1.3.5, 16.1.3.6)

abbrev pub is_digit : ℕ → Bool
is_digit c = nat_le 48 c && nat_le c 57

abbrev pub value : List ℕ → ℕ
value s = fold (λ n c. 10 * n + (c - 48)) 0 s

abbrev pub is_number : List ℕ → Bool
is_number s = list_all is_digit s && (nat_le 1 (length s) && nat_le (length s) 5)

abbrev pub number_of : List ℕ → Option ℕ
number_of s = if is_number s then Some (value s) else None
