-- The length of a text that is read from a place on.
use Rattle.pgn_c.proofs.Words.{common_steps, ◌≡◌, ℕ, ◌≤◌, Bool, List, ◌++◌, length, drop, arith, length-append, length-drop, length-replicate, white_space}

pub length_of_white : (n : ℕ) (in_first_column : Bool) → length (white_space n in_first_column) ≡ n
length_of_white n in_first_column = grind (arith, common_steps, length-append, length-replicate)

pub length_from : (text : List ℕ) (from : ℕ) (in_first_column : Bool) → from ≤ length text → length (white_space from in_first_column ++ drop from text) ≡ length text
length_from text from in_first_column within = grind (arith, common_steps, length-append, length_of_white, length-drop)
