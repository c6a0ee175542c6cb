-- The canonical text of a position spells it.
use Rattle.chess_text.proofs.Words.{◌≡◌, ℕ, zero, suc, ◌+◌, ◌-◌, ◌*◌, ◌<◌, ◌≤◌, ◌==◌, nat_le, Bool, true, not, ◌&&◌, List, [], ◌∷◌, ◌++◌, length, get_or, drop, reverse, replicate, drop-cons, add-one, append_assoc, append-nil, refl, sym, ◌∙◌, ap, arith, rules, None, Some, decimal, flat_map, map, fold, is_none, if◌then◌else◌, list_all, eqb-true, nat_tests, replicate_more, drop_all, flat_map-append, list_all-append, decimal_nonempty, digits_decimal, digits_value-decimal, IsNumeralModel, numerals_by_fold, Kind, Colour, Piece, Parts, Kings, PawnOnEdge, KingCapturable, TargetRank, NumberRange, lines, Board, is_position, target_fits, piece_letter, is_run, is_item, is_rank, cells_at, cells_of, run_text, rank_text, row, placement_text, is_digit, value, SpellsBoard, SpellsNumber, Fen, fen_text, length-append, join_with_byte, and_parts, length-decimal-le, append_cancel_left, reverse-append, reverse-reverse, length-reverse, map-append, digits_value_short, side_text, rights_text, target_text, common_steps, leb-true, take-append_seam, first_true, second_true}
use Rattle.chess_text.proofs.positions.FieldsOfText.{length-number}
use Rattle.chess_text.proofs.positions.BoardToText.{run_is_short}
use Rattle.chess_text.proofs.positions.ReadingToSpelling.{some_digit}

-- A rank.

record LetterStands (x : Piece) : Type 0 where
  item : is_item (piece_letter x) ≡ true
  cells : cells_at (piece_letter x) ≡ Some x ∷ []

letter_stands : (c : Colour) (k : Kind) → LetterStands (record { colour = c; kind = k })
letter_stands c k = search rules

digit_runs : (n : ℕ) → 0 < n → n ≤ 8 → is_run (48 + n) ≡ true
digit_runs n h g = grind (arith, nat_tests)

record RunStands (n : ℕ) : Type 0 where
  items : list_all is_item (run_text n) ≡ true
  cells : cells_of (run_text n) ≡ replicate n None

run_stands : (n : ℕ) → n ≤ 8 → RunStands n
run_stands n h = grind (arith, common_steps, digit_runs, append-nil)

-- the text of the squares that follow a run of n empty ones spells the run and the squares
record RankStands (n : ℕ) (cells : Board) : Type 0 where
  items : list_all is_item (rank_text n cells) ≡ true
  spelled : cells_of (rank_text n cells) ≡ replicate n None ++ cells

rank_stands : (n : ℕ) (cells : Board) → n + length cells ≤ 8 → RankStands n cells
rank_stands n [] h = grind arith
rank_stands n (None ∷ cells) h =
    let more = rank_stands _ cells (omega arith) in
    record {
      items = more.items;
      spelled = more.spelled ∙ ap (λ b. b ++ cells) (sym (replicate_more n None)) ∙ append_assoc _ (None ∷ []) cells;
    }
rank_stands n (Some x ∷ cells) h =
    let run = run_stands n (omega arith) in
    let letter = letter_stands x.colour x.kind in
    let more = rank_stands 0 cells (omega arith) in
    grind (arith, list_all-append, flat_map-append)

pub rank_spelled : (cells : Board) → length cells ≡ 8 → cells_of (rank_text 0 cells) ≡ cells
rank_spelled cells h = (rank_stands 0 cells (omega arith)).spelled

rank_good : (cells : Board) → length cells ≡ 8 → is_rank (rank_text 0 cells) ≡ true
rank_good cells h = grind (arith, common_steps, rank_stands)

-- A board: its rows one after another.

-- n cells from the cell k on
abbrev gets : Board → ℕ → ℕ → Board
gets b k zero = []
gets b k (suc n) = get_or b k None ∷ gets b (k + 1) n

gets_are : (b : Board) (k n : ℕ) → k + n ≡ length b → drop k b ≡ gets b k n
gets_are b k zero h = drop_all k b (omega arith)
gets_are b k (suc n) h = cc (drop-cons b k None (omega arith), add-one k, gets_are b (k + 1) n (omega arith))

pub board_rows : (b : Board) → length b ≡ 64 → b ≡ flat_map (λ rank. row b rank) (0 ∷ 1 ∷ 2 ∷ 3 ∷ 4 ∷ 5 ∷ 6 ∷ 7 ∷ [])
board_rows b h = gets_are b 0 64 (sym h)

rows_spelled : (b : Board) (rs : List ℕ) → flat_map (λ rank. row b rank) rs ≡ flat_map cells_of (map (λ rank. rank_text 0 (row b rank)) rs)
rows_spelled b [] = refl
rows_spelled b (r ∷ rs) = cc (rank_spelled _ refl, rows_spelled b rs)

rows_good : (b : Board) (rs : List ℕ) → list_all is_rank (map (λ rank. rank_text 0 (row b rank)) rs) ≡ true
rows_good b [] = refl
rows_good b (r ∷ rs) = cc (rank_good (row b r) refl, rows_good b rs)

board_spelled : (b : Board) → length b ≡ 64 → SpellsBoard (placement_text b) b
board_spelled b h =
    record {
      rank_texts = map (λ rank. rank_text 0 (row b rank)) (reverse lines);
      joined = refl;
      eight = refl;
      each = rows_good b (reverse lines);
      cells = board_rows b h ∙ rows_spelled b (0 ∷ 1 ∷ 2 ∷ 3 ∷ 4 ∷ 5 ∷ 6 ∷ 7 ∷ []);
    }

-- Numbers.

pub numerals : IsNumeralModel (λ ds. list_all is_digit ds ≡ true) value
numerals = numerals_by_fold (λ ds. list_all _ ds ≡ true) (search rules) (λ n s. fold (λ m c. 10 * m + (c - 48)) n s) (search rules)

in_range : (n : ℕ) → 0 < n → n ≤ 5 → (nat_le 1 n && nat_le n 5) ≡ true
in_range n h g = grind (arith, nat_tests)

number_spelled : (n : ℕ) → n ≤ 99999 → SpellsNumber (decimal n) n
number_spelled n h =
    grind (arith, common_steps, ◌&&◌, digits_decimal, numerals, in_range, decimal, decimal_nonempty, length-number, digits_value-decimal)

-- The whole.

fourth_and_fifth : (a b c d e : Bool) → is_none (if not a then Some Kings else if b then Some PawnOnEdge else if c then Some KingCapturable
    else if not d then Some TargetRank else if not e then Some NumberRange else None) ≡ true
    → (d ≡ true) × (e ≡ true)
fourth_and_fifth a b c d e h = grind arith

module _ (p : Parts) where
  pub last_rules : is_position p ≡ true → (target_fits p.side p.target ≡ true) × ((nat_le p.half 99999 && nat_le p.full 99999) ≡ true)
  last_rules h = grind (arith, common_steps, fourth_and_fifth)

  pub half_low : is_position p ≡ true → p.half ≤ 99999
  half_low h = leb-true _ 99999 (first_true _ (nat_le _ 99999) (last_rules h).1)

  pub full_low : is_position p ≡ true → p.full ≤ 99999
  full_low h = leb-true _ 99999 (second_true (nat_le _ 99999) _ (last_rules h).1)

  pub long_board : is_position p ≡ true → length p.board ≡ 64
  long_board h = eqb-true _ 64 (first_true _ _ h)

  pub canonical_spells : is_position p ≡ true → Fen (fen_text p) p
  canonical_spells h = search (rules, decimal, board_spelled, long_board, number_spelled, half_low, full_low)

-- No text of a position is shorter than the canonical one.

-- A rank.

cells_at-run : (c : ℕ) → is_run c ≡ true → cells_at c ≡ replicate (c - 48) None
cells_at-run c h = rw h refl

eight_cells : (s : List ℕ) → is_rank s ≡ true → length (cells_of s) ≡ 8
eight_cells s h = let e = (and_parts (list_all is_item s) _ h).1 in grind (arith, nat_tests)

-- empty squares lengthen the run
run_on : (k n : ℕ) (cells : Board) → rank_text n (replicate k None ++ cells) ≡ rank_text (n + k) cells
run_on zero n cells = let same : n + 0 ≡ n = omega arith in cc
run_on (suc k) n cells = let same : n + 1 + k ≡ n + suc k = omega arith in cc (run_on k (n + 1) cells)

rank_is_short : (s : List ℕ) (n : ℕ) → list_all is_item s ≡ true → length (rank_text n (cells_of s)) ≤ length (run_text n) + length s
rank_is_short [] n h = omega arith
rank_is_short (c ∷ s) n h =
    let both = and_parts (is_item c) (list_all is_item s) h in
    grind (arith, nat_tests, cells_at-run, run_on, run_is_short, length-append, rank_is_short s)

-- A board.

same_front : (a b c d : Board) → length a ≡ length b → a ++ c ≡ b ++ d → a ≡ b
same_front a b c d e h = cc (take-append_seam a c, take-append_seam b d)

same_rows : (b : Board) (rs : List ℕ) (ts : List (List ℕ)) → length rs ≡ length ts → list_all is_rank ts ≡ true
    → flat_map (row b) rs ≡ flat_map cells_of ts → map (row b) rs ≡ map cells_of ts
same_rows b [] [] e good h = refl
same_rows b (r ∷ rs) (t ∷ ts) e good h =
    let both = and_parts (is_rank t) (list_all is_rank ts) good in
    let front = same_front (row b r) (cells_of t) (flat_map (row b) rs) (flat_map cells_of ts) (sym (eight_cells t both.0)) h in
    let back = append_cancel_left (cells_of t) (flat_map (row b) rs) (flat_map cells_of ts) (ap (λ c. c ++ flat_map (row b) rs) (sym front) ∙ h) in
    cc (same_rows b rs ts (omega arith) both.1 back)
same_rows b rs ts e good h = absurd (omega arith)

join_is_short : (ss : List (List ℕ)) → list_all is_rank ss ≡ true
    → length (join_with_byte 47 (map (rank_text 0) (map cells_of ss))) ≤ length (join_with_byte 47 ss)
join_is_short [] h = omega arith
join_is_short (s ∷ []) h = grind (arith, common_steps, rank_is_short, first_true, length)
join_is_short (s ∷ t ∷ ss) h =
    let both = and_parts (is_rank s) _ h in
    omega (
      arith,
      join_is_short (t ∷ ss) both.1,
      rank_is_short s 0 (first_true (list_all is_item s) (length (cells_of s) == 8) both.0),
      length-append {A = ℕ},
    )

reverse_next : {A : Type 0} (x : A) (xs : List A) → reverse (x ∷ xs) ≡ reverse xs ++ x ∷ []
reverse_next x xs = reverse-append (x ∷ []) xs

all_reversed : (ss : List (List ℕ)) → list_all is_rank ss ≡ true → list_all is_rank (reverse ss) ≡ true
all_reversed [] h = refl
all_reversed (s ∷ ss) h =
    cc (
      reverse_next s ss,
      list_all-append is_rank (reverse ss) (s ∷ []),
      all_reversed ss (second_true (is_rank s) (list_all is_rank ss) h),
      first_true (is_rank s) (list_all is_rank ss) h,
    )

cells_reversed : (ss : List (List ℕ)) → reverse (map cells_of ss) ≡ map cells_of (reverse ss)
cells_reversed [] = refl
cells_reversed (s ∷ ss) =
    cc (reverse_next (cells_of s) (map cells_of ss), cells_reversed ss, map-append cells_of (reverse ss) (s ∷ []), reverse_next s ss)

there_and_back : (ss : List (List ℕ)) → reverse (map cells_of (reverse ss)) ≡ map cells_of ss
there_and_back ss = cc (cells_reversed _, reverse-reverse ss)

board_is_short : (s : List ℕ) (b : Board) → SpellsBoard s b → length b ≡ 64 → length (placement_text b) ≤ length s
board_is_short s b spells long =
    let rows =
    same_rows b lines (reverse spells.rank_texts) (sym (length-reverse _ ∙ spells.eight)) (all_reversed spells.rank_texts spells.each)
    (sym (board_rows b long) ∙ spells.cells) in
    let same =
    ap (λ bs. join_with_byte 47 (map (rank_text 0) (reverse bs))) rows
    ∙ ap (λ bs. join_with_byte 47 (map (rank_text 0) bs)) (there_and_back spells.rank_texts) in
    omega (arith, ap length same, join_is_short spells.rank_texts spells.each, ap length spells.joined)

-- A number, and the whole.

number_is_short : (s : List ℕ) (n : ℕ) → SpellsNumber s n → length (decimal n) ≤ length s
number_is_short s n spells = search (rules, and_parts, some_digit, nat_tests, digits_value_short, numerals, length-decimal-le)

length_six : (a b c d e f : List ℕ)
    → length (join_with_byte 32 (a ∷ b ∷ c ∷ d ∷ e ∷ f ∷ [])) ≡ length a + length b + length c + length d + length e + length f + 5
length_six a b c d e f = omega (arith, length-append {A = ℕ})

pub shortest : (s : List ℕ) (p : Parts) → Fen s p → length (fen_text p) ≤ length s
shortest s p fen =
    omega (
      arith,
      ap length fen.joined,
      length_six fen.board (side_text p.side) (rights_text p.rights) (target_text p.target) fen.half fen.full,
      length_six (placement_text p.board) (side_text p.side) (rights_text p.rights) (target_text p.target) (decimal p.half) (decimal p.full),
      board_is_short fen.board p.board fen.spells_board (long_board p fen.position),
      number_is_short fen.half p.half fen.spells_half,
      number_is_short fen.full p.full fen.spells_full,
    )
