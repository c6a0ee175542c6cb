use mir.Val.{bool_byte}
use Rattle.chess_rules.proofs.Words.{Option, Piece, code_of, straight_of, diagonal_of, is_near, ◌≡◌, ◌+◌, ◌*◌, ℕ, Bool, arith, if◌then◌else◌, common_steps}
use Rattle.chess_rules.proofs.sets.WordsToCells.{bits_there}
use Rattle.chess_rules.proofs.board.Board.code_at.Goals as goal

by_bits : (cell : Option Piece)
    → (if straight_of cell then 1 else 0) + 2 * (if diagonal_of cell then 1 else 0) + 4 * (if is_near cell then 1 else 0) ≡ code_of cell
by_bits cell = grind (arith, common_steps)

byte_is : (x : Bool) → bool_byte x ≡ (if x then 1 else 0)
byte_is x = grind (arith, common_steps)

summed : (cell : Option Piece) (x y z : Bool) (i j k : ℕ) → x ≡ straight_of cell → y ≡ diagonal_of cell → z ≡ is_near cell
    → i ≡ bool_byte x → j ≡ bool_byte y → k ≡ bool_byte z → i + 2 * j + 4 * k ≡ code_of cell
summed cell x y z i j k a b d e f g = grind (arith, by_bits, byte_is)

pub returns-clause-value : goal.returns-clause-value
returns-clause-value c = grind (arith, common_steps, bits_there, summed)
