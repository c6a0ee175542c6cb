-- **Bookkeeping**: what the code keeps of a game's numbers, and how it looks for a brace.
-- Letters: k is what is kept, b a byte, s the bytes behind it.
use Rattle.std.specs.Prelude.{ℕ, zero, suc, ◌+◌, ◌-◌, Bool, ◌||◌, List, Option, None, Some, ◌==◌, if◌then◌else◌}
use Rattle.std.specs.List.{list_any}
use Rattle.pgn_lexer.specs.Bytes.{is_space}
use Rattle.pgn_lexer.specs.Tokens.{Token}
use Rattle.pgn_c.specs.declared.move_numbers.Digits.{Digits}
use Rattle.pgn_c.specs.declared.move_numbers.Numbering.{Numbering}
use Rattle.pgn_c.specs.declared.move_numbers.WrongNumber.{WrongNumber}
use Rattle.pgn_c.specs.MoveNumbers.{digits_with, main_line, marks_behind, number_in, runs, wrong_behind}

-- the first wrong number of the tokens that follow
abbrev pub wrong_in : Numbering → List Token → Option WrongNumber
wrong_in k ts = wrong_behind k.before k.plies (main_line k.depth (marks_behind k.digits ts))

-- a ply more, if it is one of the main line
abbrev pub plies_after : ℕ → ℕ → Option ℕ → ℕ
plies_after zero plies None = plies + 1
plies_after _ plies _ = plies

abbrev pub with_symbol : Numbering → ℕ → List ℕ → Numbering
with_symbol k at text = record {
  depth = k.depth;
  plies = plies_after k.depth k.plies (number_in text);
  before = k.before;
  digits = digits_with at (number_in text);
}

-- behind a symbol that is no number
abbrev pub with_ply : Numbering → Numbering
with_ply k = record { depth = k.depth; plies = plies_after k.depth k.plies None; before = k.before; digits = None }

abbrev pub wrong_of : ℕ → ℕ → Option ℕ → Option Digits → Option WrongNumber
wrong_of depth plies before None = None
wrong_of depth plies None (Some digits) = None
wrong_of (suc depth) plies (Some before) (Some digits) = None
wrong_of zero plies (Some before) (Some digits) =
    if runs before plies digits.number then None
    else Some (record { at = digits.at; number = digits.number; before = before })

abbrev pub wrong_at_period : Numbering → Option WrongNumber
wrong_at_period k = wrong_of k.depth k.plies k.before k.digits

abbrev pub numbered_by : Numbering → ℕ → Option Digits → Numbering
numbered_by k zero (Some digits) = record { depth = 0; plies = 0; before = Some digits.number; digits = None }
numbered_by k depth _ = record { depth = depth; plies = k.plies; before = k.before; digits = None }

abbrev pub with_period : Numbering → Numbering
with_period k = numbered_by k k.depth k.digits

-- a parenthesis, 40 or 41, opens or closes a variation
abbrev pub depth_after : ℕ → ℕ → ℕ
depth_after b depth = if b == 40 then depth + 1 else (if b == 41 then depth - 1 else depth)

-- white space and an escape line, from its percent sign (37) on, are no tokens
abbrev pub with_other : Numbering → ℕ → Numbering
with_other k b =
    if is_space b || (b == 37) then k
    else record { depth = depth_after b k.depth; plies = k.plies; before = k.before; digits = None }

-- whether a closing brace is among the bytes
abbrev pub has_brace : List ℕ → Bool
has_brace s = list_any (λ b. b == 125) s
