-- What is read of a text is spelled by it.
use Rattle.chess_text.proofs.Words.{◌≡◌, ℕ, ◌+◌, ◌<◌, ◌≤◌, Bool, true, false, List, ◌∷◌, ◌++◌, length, get_or, refl, sym, ◌∙◌, ap, ap₂, arith, length-drop, Option, Some, Result, Ok, Err, if◌then◌else◌, list_all, before_first, after_first, position_or_len, and_parts, cond_some, eqb-true, nat_tests, length-take, join_with_byte-slice_split, split_at_first, passes_at_first, Colour, Rights, Parts, Square, Board, is_position, FenFault, ranks, placement_of, side_text, side_of, rights_text, rights_of, target_text, target_of, number_of, SpellsBoard, SpellsNumber, Fen, is_space, rest, field, at_field, parts_or_fault, parts_read, if_position, read, common_steps}
use Rattle.chess_text.proofs.forms.SpellingToForm.{same_bytes}

-- Each field from what is read of it.

pub board_spelled : (s : List ℕ) (b : Board) → placement_of s ≡ Some b → SpellsBoard s b
board_spelled s b h =
    let (placed, cells) = cond_some _ _ b h in
    let both = and_parts _ _ placed in
    record {
      rank_texts = ranks s;
      joined = sym (join_with_byte-slice_split 47 s);
      eight = eqb-true (length (ranks s)) 8 both.0;
      each = both.1;
      cells = sym cells;
    }

pub side_spelled : (s : List ℕ) (c : Colour) → side_of s ≡ Some c → s ≡ side_text c
side_spelled s c h = grind (arith, same_bytes)

pub rights_spelled : (s : List ℕ) (r : Rights) → rights_of s ≡ Some r → s ≡ rights_text r
rights_spelled s r h = let (named, is) = cond_some _ _ r h in same_bytes s _ named ∙ ap rights_text is

pub target_spelled : (s : List ℕ) (t : Option Square) → target_of s ≡ Some t → s ≡ target_text t
target_spelled s t h = grind (arith, common_steps, cond_some, eqb-true)

pub number_spelled : (s : List ℕ) (n : ℕ) → number_of s ≡ Some n → SpellsNumber s n
number_spelled s n h = let (digits, is) = cond_some _ _ n h in record { digits_alone = digits; number = sym is }

-- No spelling is empty, so that a space stands before it.

some_side : (c : Colour) → 0 < length (side_text c)
some_side c = grind arith

some_rights : (r : Rights) → 0 < length (rights_text r)
some_rights r = grind arith

some_target : (t : Option Square) → 0 < length (target_text t)
some_target t = grind arith

pub some_digit : (s : List ℕ) (n : ℕ) → SpellsNumber s n → 0 < length s
some_digit s n spells =
    let few = (and_parts (list_all _ s) _ spells.digits_alone).1 in grind (arith, nat_tests)

pub spaced : (s : List ℕ) → 0 < length (after_first is_space s) → s ≡ before_first is_space s ++ 32 ∷ after_first is_space s
spaced s h =
    let inside : position_or_len is_space s < length s = omega (arith, length-drop (position_or_len is_space s + 1) s) in
    cc (split_at_first is_space s 0 inside, eqb-true (get_or s _ 0) 32 (passes_at_first _ s 0 inside))

not_shorter : (s : List ℕ) → length (before_first is_space s) ≤ length s
not_shorter s = omega (arith, length-take (position_or_len is_space s) s)

-- The whole.

all_there : (p : Parts) (b : Option Board) (c : Option Colour) (r : Option Rights) (t : Option (Option Square)) (m n : Option ℕ)
    → parts_or_fault b c r t m n ≡ Ok p
    → (b ≡ Some p.board) × (c ≡ Some p.side) × (r ≡ Some p.rights) × (t ≡ Some p.target) × (m ≡ Some p.half) × (n ≡ Some p.full)
all_there p b c r t m n h = grind (arith, common_steps)

good : (p : Parts) (r : Result Parts FenFault) → if_position r ≡ Ok p → (r ≡ Ok p) × (is_position p ≡ true)
good p (Err f) h = absurd (cc)
good p (Ok q) h = let (same, position) = by_test _ refl h in (ap Ok same, position)
  where
    by_test : (b : Bool) → is_position q ≡ b → (if b then Ok q else at_field 7) ≡ Ok p → (q ≡ p) × (is_position p ≡ true)
    by_test true e g = let same : q ≡ p = cc in (same, cc)
    by_test false e g = cc

pub read_is_spelled : (s : List ℕ) (p : Parts) → read s ≡ Ok p → Fen s p
read_is_spelled s p h =
    let (parts, position) = good p (parts_read s) h in
    let all = all_there p (placement_of (field 1 s)) (side_of (field 2 s)) (rights_of (field 3 s))
    (target_of (field 4 s)) (number_of (field 5 s)) (number_of (field 6 s)) parts in
    let side = side_spelled (field 2 s) p.side all.1 in
    let rights = rights_spelled (field 3 s) p.rights all.2 in
    let target = target_spelled (field 4 s) p.target all.3 in
    let half = number_spelled (field 5 s) p.half all.4 in
    let full = number_spelled (field 6 s) p.full all.5 in
    let one = spaced s (omega (arith, not_shorter (rest 1 s), ap length side, some_side p.side)) in
    let two = spaced (rest 1 s) (omega (arith, not_shorter (rest 2 s), ap length rights, some_rights p.rights)) in
    let three = spaced (rest 2 s) (omega (arith, not_shorter (rest 3 s), ap length target, some_target p.target)) in
    let four = spaced (rest 3 s) (omega (arith, not_shorter (rest 4 s), some_digit (field 5 s) p.half half)) in
    let five = spaced (rest 4 s) (some_digit _ _ full) in
    record {
      board = field 1 s;
      half = field 5 s;
      full = field 6 s;
      joined =
          one ∙ ap (λ t. field 1 s ++ 32 ∷ t)
          (two ∙ ap₂ (λ u t. u ++ 32 ∷ t) side
          (three ∙ ap₂ (λ u t. u ++ 32 ∷ t) rights
          (four ∙ ap₂ (λ u t. u ++ 32 ∷ t) target five)));
      spells_board = board_spelled _ _ all.0;
      spells_half = half;
      spells_full = full;
      position = position;
    }
