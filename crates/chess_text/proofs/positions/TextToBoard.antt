-- The board that a text spells, rank by rank from its first one.
unfoldable use Rattle.chess_rules.specs.Words.{lanes}
use Rattle.chess_text.proofs.positions.LanesOfItems.{lanes_with_item}
use Rattle.chess_text.proofs.Words.{◌^◌, ◌≡◌, ℕ, zero, suc, ◌+◌, ◌-◌, ◌*◌, ◌<◌, ◌≤◌, ◌==◌, Bool, true, false, ◌&&◌, ◌||◌, List, [], ◌∷◌, ◌++◌, length, take, drop, reverse, reverse-append, inl, inr, refl, sym, ◌∙◌, ap, ap₂, subst, arith, append-nil, append_assoc, length-append, None, Some, flat_map, if◌then◌else◌, list_all, nat_tests, nat_le, nat_lt, false≢true, false_from_ne_true, Board, Piece, Option, ranks, is_item, is_rank, cells_of, placement_of, get_or, drop-cons, drop_all, cases_lt, onto_first, slice_split-cons_no, length-slice_split, is_slash, is_space, is_some, before_first, replicate, cells_at, item, common_steps, ◌%◌, length-replicate, piece_of, one_cell, lanes_fit, lanes_nil, ranks_above}

-- The reading, byte by byte: `row` has the squares of the rank so far, `done` those of the ranks
-- above.

abbrev finish : Board → Board → Option Board
finish row done = if (length row == 8) && (length done == 56) then Some (row ++ done) else None

-- What a byte means.

pub record Means (c : ℕ) : Type 0 where
  pub cells : cells_at c ≡ piece_of c ∷ replicate ((item c).width - 1) None
  pub width : (item c).width ≡ length (cells_at c)

replicate_first : (w : ℕ) → 0 < w → replicate {A = Option Piece} w None ≡ None ∷ replicate (w - 1) None
replicate_first zero some = absurd (omega arith)
replicate_first (suc n) some = (let same : suc n - 1 ≡ n = omega arith in ap (λ k. None ∷ replicate k None) (sym same))

-- the squares of a run of that width, or else of the content
abbrev cells_if : Bool → ℕ → Option Piece → Board
cells_if run w o = if run then replicate w None else one_cell o

abbrev width_if : Bool → ℕ → Option Piece → ℕ
width_if run w o = if run then w else if is_some o then 1 else 9

means_if : (run : Bool) (w : ℕ) (o : Option Piece) → (run || is_some o) ≡ true → (run ≡ true → o ≡ None) → (run ≡ true → 0 < w)
    → (cells_if run w o ≡ o ∷ replicate (width_if run w o - 1) None) × (width_if run w o ≡ length (cells_if run w o))
means_if run w o h none some = grind (arith, common_steps, replicate_first, length-replicate)

pub means : (c : ℕ) → is_item c ≡ true → Means c
means c h = grind (arith, common_steps, means_if)

item_by_width : (c : ℕ) → (item c).width ≤ 8 → is_item c ≡ true
item_by_width c h = grind arith

space_is : (c : ℕ) → is_space c ≡ true → c ≡ 32
space_is c h = grind arith

slash_is : (c : ℕ) → is_slash c ≡ true → c ≡ 47
slash_is c h = grind arith

item_no_space : (c : ℕ) → is_item c ≡ true → is_space c ≡ false
item_no_space c h =
    false_from_ne_true (is_space c) (λ e. false≢true (sym (subst (λ (d : ℕ). is_item d ≡ false) (sym (space_is c e)) refl) ∙ h))

item_no_slash : (c : ℕ) → is_item c ≡ true → is_slash c ≡ false
item_no_slash c h =
    false_from_ne_true (is_slash c) (λ e. false≢true (sym (subst (λ (d : ℕ). is_item d ≡ false) (sym (slash_is c e)) refl) ∙ h))

-- The texts of the ranks that are left, the first of which belongs to the rank so far.

abbrev fit : Board → Board → List ℕ → List (List ℕ) → Bool
fit row done rank below =
    (list_all is_item rank && (length row + length (cells_of rank) == 8)) && (list_all is_rank below && (length done + 8 * suc (length below) == 64))

abbrev joined : Board → Board → List (List ℕ) → Option Board
joined row done [] = None
joined row done (rank ∷ below) =
    if fit row done rank below then Some (flat_map cells_of (reverse below) ++ ((row ++ cells_of rank) ++ done)) else None

before-yes : (c : ℕ) (s : List ℕ) → is_space c ≡ true → before_first is_space (c ∷ s) ≡ []
before-yes c s h = rw h refl

before-no : (c : ℕ) (s : List ℕ) → is_space c ≡ false → before_first is_space (c ∷ s) ≡ c ∷ before_first is_space s
before-no c s h = grind (arith, common_steps)

if_same : {X : Type 0} (a b : Bool) (v w : X) → a ≡ b → v ≡ w → (if a then Some v else None) ≡ (if b then Some w else None)
if_same a b v w e f = ap₂ (λ x y. if x then Some y else None) e f

at_end : (row done : Board) → finish row done ≡ joined row done ([] ∷ [])
at_end row done = grind (arith, common_steps)

-- the first rank of the text is the last one of the board
first_last : (rank : List ℕ) (below : List (List ℕ)) → flat_map cells_of (reverse (rank ∷ below)) ≡ flat_map cells_of (reverse below) ++ cells_of rank
first_last rank below = grind (arith, common_steps, reverse-append)

nested : {X : Type 0} (a b : Bool) (v : X) → (if a then (if b then Some v else None) else None) ≡ (if a && b then Some v else None)
nested true b v = refl
nested false b v = refl

-- a slash
module _ (row done : Board) where
  with_slash : (texts : List (List ℕ)) → 0 < length texts
      → (if (length row == 8) && nat_lt (length done) 56 then joined [] (row ++ done) texts else None) ≡ joined row done ([] ∷ texts)
  with_slash texts some = grind (arith, common_steps, length-append, append-nil, append_assoc, first_last)

  -- a digit or a letter
  with_item : (c : ℕ) (texts : List (List ℕ)) → 0 < length texts → is_item c ≡ true
      → (if nat_le (length row + (item c).width) 8 then joined (row ++ cells_at c) done texts else None) ≡ joined row done (onto_first c texts)
  with_item c texts some good = grind (arith, common_steps, means, nested, if_same, length-append)

  -- any other byte
  with_other : (c : ℕ) (texts : List (List ℕ)) → 0 < length texts → is_item c ≡ false → None ≡ joined row done (onto_first c texts)
  with_other c [] some bad = absurd (omega arith)
  with_other c (rank ∷ below) some bad = rw bad refl

some_rank : (s : List ℕ) → 0 < length (ranks s)
some_rank s = omega (arith, length-slice_split is_slash s)

-- the texts, by the first byte
split_slash : (c : ℕ) (s : List ℕ) → is_slash c ≡ true → ranks (before_first is_space (c ∷ s)) ≡ [] ∷ ranks (before_first is_space s)
split_slash c s h = grind (arith, common_steps, before-no, slash_is)

split_other : (c : ℕ) (s : List ℕ) → is_space c ≡ false → is_slash c ≡ false
    → ranks (before_first is_space (c ∷ s)) ≡ onto_first c (ranks (before_first is_space s))
split_other c s e f = ap ranks (before-no c s e) ∙ slice_split-cons_no is_slash c (before_first is_space s) f

-- what the squares so far make with the rest of the text
unfoldable pub read_on : Board → Board → List ℕ → Option Board
read_on row done s = joined row done (ranks (before_first is_space s))

pub placement_is : (s : List ℕ) → read_on [] [] s ≡ placement_of (before_first is_space s)
unfolding read_on
placement_is s =
    grind (arith, common_steps, some_rank, suc, nat_tests, if_same)

-- One byte.

module _ (row done : Board) (c : ℕ) (s : List ℕ) where
  abbrev texts : List (List ℕ)
  texts = ranks (before_first is_space s)

  some_text : 0 < length texts
  some_text = some_rank (before_first is_space s)

  on_item : length row + (item c).width ≤ 8 → read_on row done (c ∷ s) ≡ read_on (row ++ cells_at c) done s
  unfolding read_on
  on_item h =
      let fits : nat_le (length row + (item c).width) 8 ≡ true = grind (arith, nat_tests) in
      let good = item_by_width c (omega (arith, h)) in
      ap (joined row done) (split_other c s (item_no_space c good) (item_no_slash c good))
      ∙ sym (with_item row done c texts some_text good) ∙ rw fits refl

  on_slash : is_slash c ≡ true → length row ≡ 8 → length done < 56 → read_on row done (c ∷ s) ≡ read_on [] (row ++ done) s
  unfolding read_on
  on_slash h full more = grind (arith, common_steps, nat_tests, split_slash)

  on_space : is_space c ≡ true → read_on row done (c ∷ s) ≡ finish row done
  unfolding read_on
  on_space h = ap (λ t. joined row done (ranks t)) (before-yes c s h) ∙ sym (at_end row done)

  by_byte : (x y z : Bool) → is_space c ≡ x → is_slash c ≡ y → is_item c ≡ z → 8 < length row + (item c).width
      → (y && ((length row == 8) && nat_lt (length done) 56)) ≡ false
      → (x && ((length row == 8) && (length done == 56))) ≡ false → read_on row done (c ∷ s) ≡ None
  unfolding read_on
  by_byte true y z e f i wide h g = on_space e ∙ rw g refl
  by_byte false true z e f i wide h g = ap (joined row done) (split_slash c s f) ∙ sym (with_slash row done texts some_text) ∙ rw h refl
  by_byte false false true e f i wide h g =
      let no : nat_le (length row + (item c).width) 8 ≡ false = grind (arith, nat_tests) in
      ap (joined row done) (split_other c s e f) ∙ sym (with_item row done c texts some_text i) ∙ rw no refl
  by_byte false false false e f i wide h g = ap (joined row done) (split_other c s e f) ∙ sym (with_other row done c texts some_text i)

  on_other : 8 < length row + (item c).width → (is_slash c && ((length row == 8) && nat_lt (length done) 56)) ≡ false
      → (is_space c && ((length row == 8) && (length done == 56))) ≡ false → read_on row done (c ∷ s) ≡ None
  on_other wide h g = by_byte (is_space c) (is_slash c) (is_item c) refl refl refl wide h g

-- The reading in the code.

-- The board has the squares of the ranks above, moved up; those below are empty. `lanes_read` has
-- the squares of the rank so far. `below` is how many ranks are left.
pub record ReadSoFar (text : List ℕ) (i : ℕ) (board : Board) (below file lanes_read : ℕ) : Type 0 where
  pub row : Board
  pub done : Board
  pub cells : board ≡ done ++ replicate (8 * below + 8) None
  pub value : lanes_read ≡ lanes row
  pub long : length row ≡ file
  pub narrow : file ≤ 8
  pub left : length done + 8 * below ≡ 56
  pub rest : read_on row done (drop i text) ≡ read_on [] [] text
  pub no_space : (k : ℕ) → k < i → is_space (get_or text k 0) ≡ false

pub nothing_read : (text : List ℕ) (board : Board) → board ≡ replicate 64 None → ReadSoFar text 0 board 7 0 0
nothing_read text board h = grind (arith, lanes_nil)

module _ {text : List ℕ} {i : ℕ} {board : Board} {below file lanes_read : ℕ} (so_far : ReadSoFar text i board below file lanes_read) where
  -- the board with the rank that is read
  rank_read : (new : Board) → new ≡ so_far.row ++ take 56 board → new ≡ so_far.row ++ (so_far.done ++ replicate (8 * below) None)
  rank_read new h =
      h ∙ ap (λ b. so_far.row ++ take 56 b) so_far.cells ∙ ap (λ b. so_far.row ++ b) (ranks_above so_far.done (8 * below) so_far.left)

  -- the end of the field
  finished : (new : Board) → finish so_far.row so_far.done ≡ read_on [] [] text → (file ≡ 8 → new ≡ so_far.row ++ take 56 board)
      → placement_of (before_first is_space text) ≡ (if (file == 8) && (below == 0) then Some new else None)
  finished new h pushed =
      sym (placement_is text) ∙ sym h ∙ by_count ((file == 8) && (below == 0)) refl
    where
      tests : (m n : ℕ) → m ≡ file → n + 8 * below ≡ 56 → ((m == 8) && (n == 56)) ≡ ((file == 8) && (below == 0))
      tests m n e f = grind (arith, nat_tests)

      full : (file == 8) && (below == 0) ≡ true → (file ≡ 8) × (below ≡ 0)
      full e = grind arith

      all_read : file ≡ 8 → below ≡ 0 → new ≡ so_far.row ++ so_far.done
      all_read e f =
          rank_read new (pushed e)
          ∙ ap (λ n. so_far.row ++ (so_far.done ++ replicate (8 * n) None)) f
          ∙ ap (λ b. so_far.row ++ b) (append-nil so_far.done)

      by_count : (x : Bool) → ((file == 8) && (below == 0)) ≡ x
          → finish so_far.row so_far.done ≡ (if (file == 8) && (below == 0) then Some new else None)
      by_count x e = grind (arith, common_steps, if_same, tests, all_read)

  -- the end of the text
  pub end_read : (new : Board) → length text ≤ i → (file ≡ 8 → new ≡ so_far.row ++ take 56 board)
      → placement_of (before_first is_space text) ≡ (if (file == 8) && (below == 0) then Some new else None)
  unfolding read_on
  end_read new end pushed =
      finished new (at_end so_far.row so_far.done ∙ ap (read_on so_far.row so_far.done) (sym (drop_all i text end)) ∙ so_far.rest) pushed

  -- the next byte
  module _ (low : i < length text) where
    abbrev pub byte : ℕ
    byte = get_or text i 0

    -- what is read from this byte on
    here : read_on so_far.row so_far.done (byte ∷ drop (suc i) text) ≡ read_on [] [] text
    here = ap (read_on so_far.row so_far.done) (sym (drop-cons text i 0 low)) ∙ so_far.rest

    next : i + 1 ≡ suc i
    next = omega arith

    no_space_here : is_space byte ≡ false → (k : ℕ) → k < i + 1 → is_space (get_or text k 0) ≡ false
    no_space_here h k less = elim (cases_lt k i) [ inl before ↦ so_far.no_space k before | inr after ↦ (let same : k ≡ i = omega arith in ap (λ n. is_space (get_or text n 0)) same ∙ h) ]

    is_item_here : file + (item byte).width ≤ 8 → is_item byte ≡ true
    is_item_here fits = item_by_width byte (omega (arith, fits))

    -- the lanes with a digit or a letter
    lanes_after : file + (item byte).width ≤ 8 → lanes_read + (item byte).lanes * 2 ^ file ≡ lanes (so_far.row ++ cells_at byte)
    lanes_after fits = grind (arith, common_steps, means, lanes_with_item)

    long_after : file + (item byte).width ≤ 8 → length (so_far.row ++ cells_at byte) ≡ file + (item byte).width
    long_after fits = omega (arith, length-append so_far.row (cells_at byte), so_far.long, (means byte (is_item_here fits)).width)

    lanes_fit_after : file + (item byte).width ≤ 8 → lanes_read + (item byte).lanes * 2 ^ file < 2 ^ 32
    lanes_fit_after fits = omega (arith, lanes_after fits, lanes_fit (so_far.row ++ cells_at byte) (omega (arith, long_after fits)))

    shifted : file + (item byte).width ≤ 8 → ((item byte).lanes * 2 ^ file) % 2 ^ 32 ≡ (item byte).lanes * 2 ^ file
    shifted fits = omega (arith, lanes_fit_after fits)

    pub item_fits : file + (item byte).width ≤ 8 → lanes_read + ((item byte).lanes * 2 ^ file) % 2 ^ 32 < 2 ^ 32
    item_fits fits = omega (arith, shifted fits, lanes_fit_after fits)

    -- a digit or a letter
    pub item_read : file + (item byte).width ≤ 8
        → ReadSoFar text (i + 1) board below (file + (item byte).width) (lanes_read + ((item byte).lanes * 2 ^ file) % 2 ^ 32)
    item_read fits =
        grind (arith, common_steps, shifted, lanes_after, long_after, on_item, suc)

    -- a slash after eight squares
    pub slash_read : (new : Board) → byte ≡ 47 → file ≡ 8 → 0 < below → new ≡ so_far.row ++ take 56 board → ReadSoFar text (i + 1) new (below - 1) 0 0
    slash_read new h full more pushed =
        let slash : is_slash byte ≡ true = ap is_slash h in
        let one_more : 8 * below ≡ 8 * (below - 1) + 8 = omega (arith, more) in
        record {
          row = [];
          done = so_far.row ++ so_far.done;
          cells =
              rank_read new pushed
              ∙ sym (append_assoc so_far.row so_far.done (replicate (8 * below) None))
              ∙ ap (λ n. (so_far.row ++ so_far.done) ++ replicate n None) one_more;
          value = sym lanes_nil;
          long = refl;
          narrow = omega arith;
          left = omega (arith, length-append so_far.row so_far.done, so_far.long, so_far.left, full, one_more);
          rest =
              ap (λ k. read_on [] (so_far.row ++ so_far.done) (drop k text)) next
              ∙ sym (on_slash so_far.row so_far.done byte (drop (suc i) text) slash (so_far.long ∙ full) (omega (arith, so_far.left, more))) ∙ here;
          no_space = no_space_here (ap is_space h);
        }

    -- a space
    pub space_read : (new : Board) → byte ≡ 32 → (file ≡ 8 → new ≡ so_far.row ++ take 56 board)
        → placement_of (before_first is_space text) ≡ (if (file == 8) && (below == 0) then Some new else None)
    space_read new h pushed =
        finished new (sym (on_space so_far.row so_far.done byte (drop (suc i) text) (ap is_space h)) ∙ here) pushed

    -- any other byte
    pub other_read : 8 < file + (item byte).width → ((byte == 47) && ((file == 8) && nat_lt 0 below)) ≡ false
        → ((byte == 32) && ((file == 8) && (below == 0))) ≡ false → placement_of (before_first is_space text) ≡ None
    other_read wide no_slash no_space = grind (arith, common_steps, placement_is, on_other, suc)
