-- A form that is read of a text is spelled by it.
use Rattle.chess_text.proofs.Words.{◌≡◌, ℕ, ◌+◌, ◌-◌, ◌<◌, Bool, true, false, ◌&&◌, nat_lt, nat_le, ◌==◌, List, [], ◌∷◌, ◌++◌, append-nil, refl, sym, ap, arith, Option, None, Some, is_some, find, codes, if◌then◌else◌, list_all, eqb-true, cond_some, nat_tests, Kind, Pawn, Promotion, Square, on_board, Form, Man, letter, kinds, square_text, SpellsBare, Spells, is_among, letter_texts, hint_text, capture_texts, promotion_letter, promotions, promotion_texts, is_mark, below_eight, is_form, last_byte, front, front_if, before_marks, file_of, rank_of, promotion_of, promotion_at_end, before_sign, before_promotion, square_of, target_at_end, before_capture, before_target, rank_at_end, before_rank, file_at_end, before_file, kind_of_text, piece_move_if, piece_move_of, castle_of, castle_or, bare_form, form_of, same_Some, common_steps, rules, append_assoc}
use Rattle.chess_text.proofs.forms.SpellingToForm.{snoc_again}

-- What stands before the marks, and the marks.

record Marked (s : List ℕ) : Type 0 where
  marks : List ℕ
  joined : s ≡ before_marks s ++ marks
  alone : list_all is_mark marks ≡ true

marked : (s : List ℕ) → Marked s
marked [] = record { marks = []; joined = refl; alone = refl }
marked (c ∷ s) = by_test (list_all is_mark (c ∷ s)) refl (marked s)
  where
    by_test : (b : Bool) → list_all is_mark (c ∷ s) ≡ b → Marked s → Marked (c ∷ s)
    by_test true e rest = record { marks = c ∷ s; joined = rw e refl; alone = e }
    by_test false e rest = record { marks = rest.marks; joined = rw e (ap (λ t. c ∷ t) rest.joined); alone = rest.alone }

-- The last byte that is of use stands there.

ends_in : (s : List ℕ) (n : ℕ) → last_byte s ≡ n → 0 < n → s ≡ front s ++ n ∷ []
ends_in [] n e h = absurd (omega arith)
ends_in (c ∷ s) n e h = cc (snoc_again (c ∷ s) (omega arith))

is_it : (s : List ℕ) (n : ℕ) → (last_byte s == n) ≡ true → 0 < n → s ≡ front s ++ n ∷ []
is_it s n h low = ends_in s n (eqb-true (last_byte s) n h) low

pub file_byte : (c n : ℕ) → file_of c ≡ Some n → (c ≡ 97 + n) × (nat_lt n 8 ≡ true)
file_byte c n h = let both = cond_some (nat_le 97 c && nat_le c 104) (c - 97) n h in grind (arith, nat_tests)

rank_byte : (c n : ℕ) → rank_of c ≡ Some n → (c ≡ 49 + n) × (nat_lt n 8 ≡ true)
rank_byte c n h = let both = cond_some (nat_le 49 c && nat_le c 56) (c - 49) n h in grind (arith, nat_tests)

-- a hint, and what stands before it
hint_spelled : (read : ℕ → Option ℕ) (start : ℕ) → 0 < start
    → ((c n : ℕ) → read c ≡ Some n → (c ≡ start + n) × (nat_lt n 8 ≡ true)) → (s : List ℕ)
    → (s ≡ front_if (is_some (read (last_byte s))) s ++ hint_text (λ n. start + n) (read (last_byte s)))
    × (below_eight (read (last_byte s)) ≡ true)
hint_spelled read start some byte s = by_byte _ refl
  where
    by_byte : (o : Option ℕ) → read (last_byte s) ≡ o
        → (s ≡ front_if (is_some o) s ++ hint_text (λ n. start + n) o) × (below_eight o ≡ true)
    by_byte None e = (sym (append-nil s), refl)
    by_byte (Some n) e = let (is, low) = byte (last_byte s) n e in (ends_in s (start + n) is (omega arith), low)

-- one of the ways to write a part, and what stands before it
record Part (s before : List ℕ) (texts : List (List ℕ)) : Type 0 where
  text : List ℕ
  joined : s ≡ before ++ text
  fits : is_among text texts ≡ true

capture_spelled : (s : List ℕ) → Part s (before_capture s) capture_texts
capture_spelled s = by_test (last_byte s == 120) refl
  where
    by_test : (b : Bool) → (last_byte s == 120) ≡ b → Part s (front_if b s) capture_texts
    by_test true e = record { text = codes "x"; joined = is_it s 120 e (omega arith); fits = refl }
    by_test false e = record { text = []; joined = sym (append-nil s); fits = refl }

square_parts : (f r : Option ℕ) (to : Square) → square_of f r ≡ Some to → (f ≡ Some to.file) × (r ≡ Some to.rank)
square_parts f r to h = grind arith

pub target_spelled : (s : List ℕ) (to : Square) → target_at_end s ≡ Some to
    → (s ≡ front (front s) ++ square_text to) × (on_board to ≡ true)
target_spelled s to h =
    grind (arith, common_steps, square_parts, file_byte, rank_byte)

-- what is found passes the test
pub found : {X : Type 0} (p : X → Bool) (xs : List X) (x : X) → find p xs ≡ Some x → p x ≡ true
found p [] x h = cc
found p (y ∷ xs) x h = grind (arith, found p xs x)

promotion_byte : (c : ℕ) (q : Promotion) → promotion_of c ≡ Some q → c ≡ promotion_letter q
promotion_byte c q h = sym (eqb-true (promotion_letter q) c (found (λ p. promotion_letter p == c) promotions q h))

letter_texts_of : (q : Promotion) → (0 < promotion_letter q) × (is_among (61 ∷ promotion_letter q ∷ []) (promotion_texts (Some q)) ≡ true)
    × (is_among (promotion_letter q ∷ []) (promotion_texts (Some q)) ≡ true)
letter_texts_of q = grind arith

promotion_spelled : (s : List ℕ) → Part s (before_promotion s) (promotion_texts (promotion_at_end s))
promotion_spelled s = by_byte (promotion_at_end s) refl
  where
    by_sign : (q : Promotion) (b : Bool) → (last_byte (front s) == 61) ≡ b
        → s ≡ front s ++ promotion_letter q ∷ [] → Part s (front_if b (front s)) (promotion_texts (Some q))
    by_sign q b e h = grind (arith, common_steps, is_it, append_assoc, letter_texts_of)

    by_byte : (o : Option Promotion) → promotion_at_end s ≡ o → Part s (if is_some o then before_sign (front s) else s) (promotion_texts o)
    by_byte o e = search (rules, append-nil, by_sign, ends_in, promotion_byte, letter_texts_of)

own_letter : (k : Kind) → is_among (letter k ∷ []) (letter_texts k) ≡ true
own_letter k = grind arith

pub kind_spelled : (s : List ℕ) (k : Kind) → kind_of_text s ≡ Some k → is_among s (letter_texts k) ≡ true
kind_spelled [] k h = cc (same_Some Pawn k h)
kind_spelled (c ∷ d ∷ s) k h = cc
kind_spelled (c ∷ []) k h = cc (eqb-true (letter k) c (found (λ j. letter j == c) kinds k h), own_letter k)

-- All of it.

record Told (s : List ℕ) (f : Form) : Type 0 where
  spelled : SpellsBare s f
  good : is_form f ≡ true

no_form : (f : Form) → None ≡ Some f → ⊥
no_form f h = cc

-- what stands before the target, and what the rest says
piece_move_spelled : (s : List ℕ) (f : Form) → piece_move_of s ≡ Some f → Told s f
piece_move_spelled s f h =
    by_parts (kind_of_text (before_file (before_rank b))) (target_at_end d) refl refl h
  where
    d : List ℕ
    d = before_promotion s

    b : List ℕ
    b = before_target d

    by_parts : (k : Option Kind) (to : Option Square) → kind_of_text (before_file (before_rank b)) ≡ k → target_at_end d ≡ to
        → piece_move_if k (file_at_end (before_rank b)) (rank_at_end b) to (promotion_at_end s) ≡ Some f → Told s f
    by_parts k None e g h = absurd (no_form f h)
    by_parts None (Some to) e g h = absurd (no_form f h)
    by_parts (Some k) (Some to) e g h =
        let a = before_rank b in
        let l = before_file a in
        let p = promotion_spelled s in
        let t = target_spelled d to g in
        let x = capture_spelled (front (front d)) in
        let r = hint_spelled rank_of 49 (omega arith) rank_byte b in
        let i = hint_spelled file_of 97 (omega arith) file_byte a in
        rw (← same_Some (Man k (file_at_end a) (rank_at_end b) to (promotion_at_end s)) f h)
        (record {
          spelled = record { letters = l; capture = x.text; promoted = p.text; joined = cc; letters_fit = kind_spelled l k e; capture_fits = x.fits; promoted_fits = p.fits };
          good = cc;
        })

bare_spelled : (s : List ℕ) (f : Form) → bare_form s ≡ Some f → Told s f
bare_spelled s f h = by_castling (castle_of s) refl h
  where
    by_castling : (o : Option Bool) → castle_of s ≡ o → castle_or o (piece_move_of s) ≡ Some f → Told s f
    by_castling None e g = piece_move_spelled s f g
    by_castling (Some long) e g = search (rules, same_Some)

pub form_spelled : (s : List ℕ) (f : Form) → form_of s ≡ Some f → Spells s f × (is_form f ≡ true)
form_spelled s f h =
    let m = marked s in
    let t = bare_spelled (before_marks s) f h in
    (record { bare = before_marks s; marks = m.marks; joined = m.joined; spells_bare = t.spelled; marks_alone = m.alone }, t.good)
