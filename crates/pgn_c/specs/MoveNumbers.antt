-- **Definition**: the first move number of a game that does not run (PGN 8.2.2).
-- Numbers decide nothing in PGN. One that does not run shows that moves or a marker may be missing.
-- Letters: n is a number, d a digit, ts are the tokens of a text, ms its marks.
use Rattle.std.specs.Prelude.{ℕ, zero, suc, ◌+◌, ◌-◌, ◌*◌, ◌/◌, Bool, ◌&&◌, List, [], ◌∷◌, ◌++◌, Option, None, Some, fold, min, nat_le, if◌then◌else◌}
use Rattle.std.specs.List.{list_all}
use Rattle.pgn_lexer.specs.Bytes.{is_digit}
use Rattle.pgn_lexer.specs.Tokens.{Kind, Token, left_paren, right_paren, period, symbol, refused}
use Rattle.pgn_c.specs.declared.move_numbers.Digits.{Digits}
use Rattle.pgn_c.specs.declared.move_numbers.PgnNumber.{PgnNumber}
use Rattle.pgn_c.specs.declared.move_numbers.WrongNumber.{WrongNumber}

-- one digit more; 4294967295 stands for larger numbers too
abbrev pub one_digit_more : ℕ → ℕ → ℕ
one_digit_more n d = min (10 * n + (d - 48)) 4294967295

-- the number of a text, if it is digits alone
abbrev pub number_in : List ℕ → Option ℕ
number_in text = if list_all is_digit text then Some (fold one_digit_more 0 text) else None

-- What a token says of the numbering: a number at its place, a ply, or where a variation begins or
-- ends.
pub data Mark : Type 0 where
  numbered : Digits → Mark
  ply : Mark
  opens : Mark
  closes : Mark

-- a symbol of digits, which a period behind it makes a number
abbrev pub digits_with : ℕ → Option ℕ → Option Digits
digits_with at None = None
digits_with at (Some n) = Some (record { at = at; number = n })

abbrev pub digits_in : Token → Option Digits
digits_in t = digits_of t.kind
  where
    digits_of : Kind → Option Digits
    digits_of (symbol text) = digits_with t.at (number_in text)
    digits_of _ = None

-- the mark of a period behind this token, and that of a symbol
abbrev pub mark_of_period : Option Digits → List Mark
mark_of_period None = []
mark_of_period (Some digits) = numbered digits ∷ []

abbrev pub mark_of_symbol : Option ℕ → List Mark
mark_of_symbol None = ply ∷ []
mark_of_symbol (Some n) = []

-- the mark of a token, behind the one before it
abbrev pub mark_of : Kind → Option Digits → List Mark
mark_of period before = mark_of_period before
mark_of (symbol text) before = mark_of_symbol (number_in text)
mark_of left_paren before = opens ∷ []
mark_of right_paren before = closes ∷ []
mark_of _ before = []

-- The marks of tokens. Behind the digits a period may follow.
abbrev pub marks_behind : Option Digits → List Token → List Mark
marks_behind before [] = []
marks_behind before (t ∷ ts) = mark_of t.kind before ++ marks_behind (digits_in t) ts

-- the marks outside variations, of which so many are open before them
abbrev pub main_line : ℕ → List Mark → List Mark
main_line depth [] = []
main_line depth (opens ∷ ms) = main_line (depth + 1) ms
main_line depth (closes ∷ ms) = main_line (depth - 1) ms
main_line zero (m ∷ ms) = m ∷ main_line zero ms
main_line (suc depth) (m ∷ ms) = main_line (suc depth) ms

-- Behind so many plies since the number before, a number runs if it is not lower than that one, and
-- higher by at most the moves between. One ply is half a move.
abbrev pub runs : ℕ → ℕ → ℕ → Bool
runs before plies n = nat_le before n && nat_le (n - before) ((plies + 1) / 2)

-- The first number that does not run. The first number of a game runs.
abbrev pub wrong_behind : Option ℕ → ℕ → List Mark → Option WrongNumber
wrong_behind before plies [] = None
wrong_behind before plies (ply ∷ ms) = wrong_behind before (plies + 1) ms
wrong_behind None plies (numbered digits ∷ ms) = wrong_behind (Some digits.number) 0 ms
wrong_behind (Some before) plies (numbered digits ∷ ms) =
    if runs before plies digits.number then wrong_behind (Some digits.number) 0 ms
    else Some (record { at = digits.at; number = digits.number; before = before })
wrong_behind before plies (_ ∷ ms) = wrong_behind before plies ms

-- the first number of the main line that does not run, in the tokens of a game
abbrev pub wrong_number : List Token → Option WrongNumber
wrong_number ts = wrong_behind None 0 (main_line 0 (marks_behind None ts))

-- no error is among the tokens
abbrev pub IsAccepted : Kind → Type 0
IsAccepted (refused reason) = ⊥
IsAccepted _ = Unit {0}

abbrev pub AreAccepted : List Token → Type 0
AreAccepted [] = Unit {0}
AreAccepted (t ∷ ts) = IsAccepted t.kind × AreAccepted ts

-- 1 for yes
abbrev pub flag_of : Bool → ℕ
flag_of is = if is then 1 else 0

-- What C gets, where the game has something unusual or not. A number that does not run is unusual.
abbrev pub number_result : Option WrongNumber → Bool → PgnNumber
number_result None unusual = record { status = 0; unusual = flag_of unusual; place = 0; number = 0; before = 0 }
number_result (Some wrong) unusual = record { status = 1; unusual = 1; place = wrong.at; number = wrong.number; before = wrong.before }
