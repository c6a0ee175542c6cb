-- A text with zeros behind it.

-- a text that was copied over the first of so many zeros
use Rattle.pgn_c.proofs.Words.{◌≡◌, ℕ, List, ◌++◌, length, drop, replicate, drop-replicate, padded, arith, common_steps}

pub over_zeros : (size : ℕ) (text copied : List ℕ) → copied ≡ text → copied ++ drop (length text) (replicate size 0) ≡ padded size text
over_zeros size text copied same = grind (arith, common_steps, length, drop-replicate)
