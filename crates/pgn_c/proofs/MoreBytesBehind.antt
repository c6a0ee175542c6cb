-- A buffer that takes more bytes behind those that were written.

-- the buffer b, in which w bytes were written, and then the first n of xs
use Rattle.pgn_c.proofs.Words.{◌≡◌, ℕ, ◌+◌, ◌-◌, ◌≤◌, min, List, ◌++◌, length, take, drop, ap, sym, ◌∙◌, length-append, arith, length_paste_head, drop_at, drop-drop, length-drop, common_steps}

abbrev pub with_more : List ℕ → ℕ → ℕ → List ℕ → List ℕ
with_more b w n xs = take w b ++ take n xs ++ drop (w + n) b

pub length_with : (b xs : List ℕ) (w n : ℕ) → w ≤ length b → n ≡ min (length xs) (length b - w)
    → length (with_more b w n xs) ≡ length b
length_with b xs w n within count = grind (arith, common_steps, length-append, take, length_paste_head, length-drop)

pub drop_with : (b k xs : List ℕ) (w n : ℕ) → w ≤ length b → n ≡ min (length xs) (length b - w)
    → drop w b ≡ drop w k → drop (w + n) (with_more b w n xs) ≡ drop (w + n) k
drop_with b k xs w n within count same =
    drop_at (take w b ++ take n xs) (drop (w + n) b) (w + n) (length_paste_head b w xs n within (omega (arith, count)))
    ∙ sym (drop-drop n w b) ∙ ap (drop n) same ∙ drop-drop n w k
