-- What stands before the marks of a move.
use Rattle.chess_text.proofs.Words.{◌≡◌, ℕ, ◌+◌, ◌-◌, ◌<◌, ◌≤◌, true, false, List, [], ◌∷◌, ◌++◌, ◌⊎◌, inl, inr, length, get_or, take, drop, refl, sym, ◌∙◌, ap, arith, list_all, take-append-drop, take_more, is_mark, before_marks, and_right, and_left, list_all-append, ◌&&◌, nat_lt, ◌==◌, append-nil, append_assoc, or_cases, length-append, Option, None, Some, bytes_eq, codes, nat_tests, and_parts, bytes_eq-Decides, Kind, Promotion, Square, on_board, Form, Man, file_letter, rank_digit, square_text, SpellsPieceMove, SpellsBare, Spells, is_among, letter_texts, hint_text, capture_texts, promotion_letter, promotion_texts, below_eight, is_form, last_byte, front, file_of, rank_of, promotion_of, promotion_at_end, before_sign, before_promotion, target_at_end, before_capture, before_target, rank_at_end, before_rank, file_at_end, before_file, kind_of_text, piece_move_of, castle_of, bare_form, form_of, false_from_ne_true, common_steps, get_or-append_seam, take-append_seam, rules, and-true, or-false}

pub marks_alone-none : (s : List ℕ) → list_all is_mark s ≡ true → before_marks s ≡ []
marks_alone-none [] h = refl
marks_alone-none (c ∷ s) h = rw h refl

all-append : (t m : List ℕ) → list_all is_mark m ≡ true → list_all is_mark (t ++ m) ≡ list_all is_mark t
all-append t m h = list_all-append is_mark t m ∙ ap (λ b. list_all is_mark t && b) h ∙ and-true _

-- marks at the end change nothing
pub before_marks-append : (t m : List ℕ) → list_all is_mark m ≡ true → before_marks (t ++ m) ≡ before_marks t
before_marks-append [] m h = marks_alone-none m h
before_marks-append (c ∷ t) m h = rw (all-append t m h, before_marks-append t m h) refl

last_fails : (t : List ℕ) (c : ℕ) → is_mark c ≡ false → list_all is_mark (t ++ c ∷ []) ≡ false
last_fails t c h = list_all-append is_mark t (c ∷ []) ∙ and_right (list_all is_mark t) _ (and_left (is_mark c) true h)

-- a text whose last byte is no mark has none at its end
pub before_marks-last : (t : List ℕ) (c : ℕ) → is_mark c ≡ false → before_marks (t ++ c ∷ []) ≡ t ++ c ∷ []
before_marks-last [] c h = rw h refl
before_marks-last (d ∷ t) c h = rw (last_fails (d ∷ t) c h) (ap (λ s. d ∷ s) (before_marks-last t c h))

-- where the marks begin
pub cut_at_marks : (s : List ℕ) (n : ℕ) → 0 < n → n ≤ length s → list_all is_mark (drop n s) ≡ true
    → is_mark (get_or s (n - 1) 0) ≡ false → before_marks s ≡ take n s
cut_at_marks s n started within marks h =
    let again : (n - 1) + 1 ≡ n = omega arith in
    cc (
      take_more s (n - 1) 0 (omega arith),
      take-append-drop n s,
      before_marks-append (take n s) (drop n s) marks,
      before_marks-last (take (n - 1) s) (get_or s (n - 1) 0) h,
    )

-- the loop's end: no byte is left, or one that is no mark
pub cut_where : (s : List ℕ) (n : ℕ) → n ≤ length s → list_all is_mark (drop n s) ≡ true
    → (n ≡ 0) ⊎ ((0 < n) × (is_mark (get_or s (n - 1) 0) ≡ false)) → take n s ≡ before_marks s
cut_where s n within marks (inl none) = rw none (sym (marks_alone-none s (rw none at marks)))
cut_where s n within marks (inr some) = sym (cut_at_marks s n some.0 within marks some.1)

-- A text that spells a form is read as that form.

-- The last byte, and what stands before it.

module _ (t : List ℕ) (c : ℕ) where
  end_of : length (t ++ c ∷ []) - 1 ≡ length t
  end_of = omega (arith, length-append t (c ∷ []))

  pub last_byte-snoc : last_byte (t ++ c ∷ []) ≡ c
  last_byte-snoc = cc (end_of, get_or-append_seam t c [] 0)

  pub front-snoc : front (t ++ c ∷ []) ≡ t
  front-snoc = cc (end_of, take-append_seam t (c ∷ []))

pub snoc_again : (s : List ℕ) → 0 < length s → s ≡ front s ++ last_byte s ∷ []
snoc_again s h = grind (arith, common_steps)

no_mark_end : (s : List ℕ) → is_mark (last_byte s) ≡ false → before_marks s ≡ s
no_mark_end [] h = refl
no_mark_end (c ∷ s) h = cc (snoc_again (c ∷ s) (omega arith), before_marks-last (front (c ∷ s)) (last_byte (c ∷ s)) h)

-- One of the ways to write a part.

pub same_bytes : (s t : List ℕ) → bytes_eq s t ≡ true → s ≡ t
same_bytes s t h = (bytes_eq-Decides s t).0 h

pub one_of : (s a : List ℕ) → is_among s (a ∷ []) ≡ true → s ≡ a
one_of s a h = same_bytes s a (sym (or-false (bytes_eq s a)) ∙ h)

pub two_of : (s a b : List ℕ) → is_among s (a ∷ b ∷ []) ≡ true → (s ≡ a) ⊎ (s ≡ b)
two_of s a b h = elim (or_cases (bytes_eq s a) _ h) [ inl e ↦ inl (same_bytes s a e) | inr e ↦ inr (one_of s b e) ]

-- The letter.

-- it is told, and is no file, rank or x
record Letters (s : List ℕ) (k : Kind) : Type 0 where
  named : kind_of_text s ≡ Some k
  no_file : file_of (last_byte s) ≡ None
  no_rank : rank_of (last_byte s) ≡ None
  no_x : (last_byte s == 120) ≡ false

letters_read : (k : Kind) (s : List ℕ) → is_among s (letter_texts k) ≡ true → Letters s k
letters_read k s h = grind (arith, common_steps, two_of, codes, one_of)

-- The hints.

-- the last byte of the text of a piece's move is no mark, and ends no castling
record Ends (c : ℕ) : Type 0 where
  no_mark : is_mark c ≡ false
  no_letter : (c == 79) ≡ false
  no_zero : (c == 48) ≡ false

rank_digits : (n : ℕ) → nat_lt n 8 ≡ true → (rank_of (49 + n) ≡ Some n) × ((49 + n == 120) ≡ false)
    × (promotion_of (49 + n) ≡ None) × ((49 + n == 61) ≡ false) × Ends (49 + n)
rank_digits n h = grind (arith, nat_tests)

-- what a hint tells, and what stands before it
record FileRead (s t : List ℕ) (file : Option ℕ) : Type 0 where
  told : file_at_end t ≡ file
  before : before_file t ≡ s
  no_rank : rank_of (last_byte t) ≡ None
  no_x : (last_byte t == 120) ≡ false

file_read : (s : List ℕ) (k : Kind) (file : Option ℕ) → below_eight file ≡ true
    → Letters s k → FileRead s (s ++ hint_text file_letter file) file
file_read s k None h l = rw append-nil (record { told = l.no_file; before = cc; no_rank = l.no_rank; no_x = l.no_x })
file_read s k (Some n) h l = grind (arith, common_steps, last_byte-snoc)

record RankRead (s t : List ℕ) (rank : Option ℕ) : Type 0 where
  told : rank_at_end t ≡ rank
  before : before_rank t ≡ s
  no_x : (last_byte t == 120) ≡ false

rank_read : (s : List ℕ) (rank : Option ℕ) → below_eight rank ≡ true → rank_of (last_byte s) ≡ None
    → (last_byte s == 120) ≡ false → RankRead s (s ++ hint_text rank_digit rank) rank
rank_read s None h none no_x = rw append-nil (record { told = none; before = cc; no_x = no_x })
rank_read s (Some n) h none no_x = grind (arith, common_steps, last_byte-snoc)

-- The x.

capture_read : (s x : List ℕ) → is_among x capture_texts ≡ true → (last_byte s == 120) ≡ false → before_capture (s ++ x) ≡ s
capture_read s x h no_x = grind (arith, common_steps, two_of, append-nil)

-- The target.

record TargetRead (s t : List ℕ) (to : Square) : Type 0 where
  told : target_at_end t ≡ Some to
  before : front (front t) ≡ s
  last : last_byte t ≡ 49 + to.rank

target_read : (s : List ℕ) (to : Square) → on_board to ≡ true → TargetRead s (s ++ square_text to) to
target_read s to h = grind (arith, common_steps, and_parts, last_byte-snoc, front-snoc)

-- The promotion.

promotion_back : (q : Promotion) → promotion_of (promotion_letter q) ≡ Some q
promotion_back q = grind arith

letter_ends : (q : Promotion) → Ends (promotion_letter q)
letter_ends q = grind arith

record PromotionRead (s t : List ℕ) (promotion : Option Promotion) : Type 0 where
  told : promotion_at_end t ≡ promotion
  before : before_promotion t ≡ s
  ends : Ends (last_byte t)

-- behind the digit of a rank
promotion_read : (s p : List ℕ) (n : ℕ) (promotion : Option Promotion) → is_among p (promotion_texts promotion) ≡ true
    → nat_lt n 8 ≡ true → last_byte s ≡ 49 + n → PromotionRead s (s ++ p) promotion
promotion_read s p n None h low last = grind (arith, common_steps, rank_digits)
promotion_read s p n (Some q) h low last =
    let d = rank_digits n low in
    elim (two_of p (promotion_letter q ∷ []) (61 ∷ promotion_letter q ∷ []) h) [
      | inl e ↦ rw e (by_letter s (cc))
      | inr e ↦
          rw (e, ← append_assoc s (61 ∷ []) (promotion_letter q ∷ []))
          (by_letter (s ++ 61 ∷ []) (cc (last_byte-snoc s 61, front-snoc s 61)))
    ]
  where
    by_letter : (t : List ℕ) → before_sign t ≡ s → PromotionRead s (t ++ promotion_letter q ∷ []) (Some q)
    by_letter t before = grind (arith, common_steps, last_byte-snoc, promotion_back, front-snoc, letter_ends)

-- All of it.

record BareRead (s : List ℕ) (f : Form) : Type 0 where
  told : bare_form s ≡ Some f
  whole : before_marks s ≡ s

not_among : (s a b : List ℕ) → Ends (last_byte s) → (last_byte a == 79) ≡ true
    → (last_byte b == 48) ≡ true → is_among s (a ∷ b ∷ []) ≡ false
not_among s a b ends h g = false_from_ne_true (is_among s (a ∷ b ∷ [])) (λ k. elim (two_of s a b k) [ inl e ↦ cc | inr e ↦ cc ])

no_castle : (s : List ℕ) → Ends (last_byte s) → castle_of s ≡ None
no_castle s ends = rw (not_among s (codes "O-O") (codes "0-0") ends refl refl, not_among s (codes "O-O-O") (codes "0-0-0") ends refl refl) refl

piece_move_read : (s : List ℕ) (k : Kind) (file rank : Option ℕ) (to : Square) (promotion : Option Promotion)
    → SpellsPieceMove s k file rank to promotion → is_form (Man k file rank to promotion) ≡ true → BareRead s (Man k file rank to promotion)
piece_move_read s k file rank to promotion h g =
    let on = and_parts (below_eight file && below_eight rank) (on_board to) g in
    let hints = and_parts (below_eight file) (below_eight rank) on.0 in
    let a = h.letters ++ hint_text file_letter file in
    let b = a ++ hint_text rank_digit rank in
    let c = b ++ h.capture in
    let d = c ++ square_text to in
    let letters = letters_read k h.letters h.letters_fit in
    let f = file_read h.letters k file hints.0 letters in
    let r = rank_read a rank hints.1 f.no_rank f.no_x in
    let x = capture_read b h.capture h.capture_fits r.no_x in
    let t = target_read c to on.1 in
    let p = promotion_read d h.promoted to.rank promotion h.promoted_fits (and_parts (nat_lt to.file 8) (nat_lt to.rank 8) on.1).1 t.last in
    let before : before_target d ≡ b = cc in
    let piece_move : piece_move_of (d ++ h.promoted) ≡ Some (Man k file rank to promotion) = cc in
    rw h.joined (record { told = cc (no_castle (d ++ h.promoted) p.ends); whole = no_mark_end (d ++ h.promoted) p.ends.no_mark })

bare_read : (s : List ℕ) (f : Form) → SpellsBare s f → is_form f ≡ true → BareRead s f
bare_read s f h g = search (rules, two_of, codes, piece_move_read)

pub form_read : (s : List ℕ) (f : Form) → Spells s f → is_form f ≡ true → form_of s ≡ Some f
form_read s f h g = grind (arith, bare_read, before_marks-append)
