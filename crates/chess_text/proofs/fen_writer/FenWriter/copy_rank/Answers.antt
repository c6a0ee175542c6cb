use borrow.Rule.Slice.PartMut.{put_mid}
use Rattle.std.proofs.Math.Seq.{take-append-add}
use Rattle.chess_text.proofs.Words.{◌≡◌, ◌≤◌, ◌+◌, ◌++◌, List, ℕ, arith, length, take, take-append-le, common_steps}
use Rattle.chess_text.proofs.fen_writer.FenWriter.copy_rank.Goals as goal

-- the first bytes of what is copied stand behind what was there before
copied : (text bytes : List ℕ) (start k n : ℕ) → start ≤ length text → n ≤ length bytes
    → take (start + n) (put_mid start k text bytes) ≡ take start text ++ take n bytes
copied text bytes start k n h low = grind (arith, common_steps, length, take, take-append-add, take-append-le)

pub returns-clause-text : goal.returns-clause-text
returns-clause-text c = grind (arith, common_steps, take, length, copied)
