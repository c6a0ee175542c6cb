-- The canonical text of a board, rank by rank.
use Rattle.chess_text.proofs.Words.{◌≡◌, ℕ, zero, suc, ◌+◌, ◌-◌, ◌*◌, ◌<◌, ◌≤◌, List, [], ◌∷◌, ◌++◌, length, append_assoc, append-nil, ap, arith, length-append, Board, rank_text, row, placement_text, ◌==◌, false, drop, refl, None, Some, nat_tests, at, square, run_text, refill, take, take-append_seam, sym, ◌∙◌}

-- the squares of a rank from a file on
pub drop-row : (b : Board) (rank file : ℕ) → file < 8 → drop file (row b rank) ≡ at b (square file rank) ∷ drop (file + 1) (row b rank)
drop-row b rank (suc (suc (suc (suc (suc (suc (suc (suc file)))))))) h = absurd (omega arith)
drop-row b rank file h = refl

pub run_is_short : (n : ℕ) → length (run_text n) ≤ 1
run_is_short zero = omega arith
run_is_short (suc n) = let some : (suc n == 0) ≡ false = grind (arith, nat_tests) in rw some (omega arith)

length-run_text : (n : ℕ) → length (run_text n) ≤ n
length-run_text zero = omega arith
length-run_text (suc n) = omega (arith, run_is_short (suc n))

-- a run takes a digit at most, and a piece its letter
pub length-rank_text : (n : ℕ) (cells : Board) → length (rank_text n cells) ≤ n + length cells
length-rank_text n [] = omega (arith, length-run_text n)
length-rank_text n (None ∷ cells) = omega (arith, length-rank_text (n + 1) cells)
length-rank_text n (Some x ∷ cells) = omega (arith, length-append {A = ℕ}, length-run_text n, length-rank_text 0 cells)

-- the n lowest ranks from the upper one on, each after a slash
abbrev pub lower : Board → ℕ → List ℕ
lower b zero = []
lower b (suc n) = 47 ∷ (rank_text 0 (row b n) ++ lower b n)

-- what is written of a board when the ranks from 8 to 8 - i are
pub record WrittenTo (b : Board) (text : List ℕ) (i : ℕ) : Type 0 where
  pub whole : text ++ lower b (7 - i) ≡ placement_text b
  pub short : length text ≤ 9 * i + 8

ends : (b : Board) → rank_text 0 (row b 7) ++ lower b 7 ≡ placement_text b
ends b = cc (append-nil _)

length-lower : (b : Board) (n : ℕ) → length (lower b n) ≤ 9 * n
length-lower b zero = omega arith
length-lower b (suc n) =
    let row_low = length-rank_text 0 (row b n) in
    omega (arith, length-append {A = ℕ}, length-lower b n)

pub length-placement_text : (b : Board) → length (placement_text b) ≤ 71
length-placement_text b =
    let row_low = length-rank_text 0 (row b 7) in
    omega (arith, ap length (ends b), length-append {A = ℕ}, length-lower b 7)

pub first_rank : (b : Board) (text new : List ℕ) → text ≡ [] → new ≡ text ++ rank_text 0 (row b 7) → WrittenTo b new 0
first_rank b text new e f =
    let row_low = length-rank_text 0 (row b 7) in
    let same : new ≡ rank_text 0 (row b 7) = cc in
    record { whole = cc (ends b); short = omega (arith, ap length same) }

pub next_rank : (b : Board) (text slash new : List ℕ) (i : ℕ) → WrittenTo b text i → i < 7 → slash ≡ text ++ 47 ∷ []
    → new ≡ slash ++ rank_text 0 (row b (6 - i)) → WrittenTo b new (i + 1)
next_rank b text slash new i so_far h e f =
    let rank : List ℕ = rank_text 0 (row b (6 - i)) in
    let one_less : 7 - i ≡ suc (6 - i) = omega arith in
    let same : 6 - i ≡ 7 - (i + 1) = omega arith in
    record {
      whole = cc (
        ap (lower b) one_less,
        append_assoc (text ++ 47 ∷ []) rank (lower b (7 - (i + 1))),
        append_assoc text (47 ∷ []) (rank ++ lower b (7 - (i + 1))),
      );
      short = omega (arith, ap length f, ap length e, length-append {A = ℕ}, length-rank_text 0 (row b (6 - i)));
    }

pub last_rank_written : (b : Board) (text : List ℕ) (i : ℕ) → WrittenTo b text i → 7 ≤ i → text ≡ placement_text b
last_rank_written b text i so_far h =
    let none : 7 - i ≡ 0 = omega arith in cc (ap (lower b) none, append-nil text)

-- what is written over a whole text stands in its place
pub refilled : (xs ws : List ℕ) → length ws ≡ length xs → refill (length xs) xs ws ≡ ws
refilled xs ws same = ap (λ n. take n (ws ++ drop (length ws) xs)) (sym same) ∙ take-append_seam ws (drop (length ws) xs)
