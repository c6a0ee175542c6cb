-- A text that spells a position is read as that position.
use Rattle.chess_text.proofs.Words.{◌≡◌, ℕ, ◌+◌, ◌-◌, ◌<◌, ◌==◌, nat_le, Bool, true, false, not, ◌&&◌, List, [], ◌∷◌, length, refl, sym, ◌∙◌, ap, ap₂, arith, Option, None, Some, Ok, list_all, join_with_byte, false≢true, false_from_ne_true, and_parts, is_target, eqb-true, nat_tests, list_all-append, onto_first, ◌++◌, slice_split, slice_split-cons_no, slice_split-cons_yes, length-slice_split, Colour, Rights, Parts, Square, square, Board, target_fits, ranks, is_slash, is_item, is_rank, placement_of, side_text, side_of, rights_text, rights_of, target_text, target_of, is_digit, number_of, SpellsBoard, SpellsNumber, Fen, is_space, parts_or_fault, read, not-true, common_steps, first_true}
use Rattle.chess_text.proofs.positions.CanonicalText.{last_rules}
use Rattle.chess_text.proofs.positions.FieldsOfText.{lacks, six_fields}

-- a byte that passes is not one that does not
differs : (p : ℕ → Bool) (c d : ℕ) → p d ≡ false → p c ≡ true → not (c == d) ≡ true
differs p c d h g = ap not (false_from_ne_true (c == d) (λ e. false≢true (sym h ∙ ap p (sym (eqb-true c d e)) ∙ g)))

-- nor stands the latter in a text of such bytes
pub all_lack : (p : ℕ → Bool) (d : ℕ) → p d ≡ false → (s : List ℕ) → list_all p s ≡ true → lacks (λ c. c == d) s ≡ true
all_lack p d h [] g = refl
all_lack p d h (c ∷ s) g = let both = and_parts (p c) (list_all p s) g in cc (differs p c d h both.0, all_lack p d h s both.1)

-- Field 1.

ranks_lack : (d : ℕ) → is_item d ≡ false → (ss : List (List ℕ))
    → list_all is_rank ss ≡ true → list_all (lacks (λ c. c == d)) ss ≡ true
ranks_lack d h [] g = refl
ranks_lack d h (s ∷ ss) g =
    let both = and_parts (is_rank s) (list_all is_rank ss) g in
    cc (all_lack is_item d h s (first_true (list_all is_item s) _ both.0), ranks_lack d h ss both.1)

joined_lacks : (ss : List (List ℕ)) → list_all (lacks is_space) ss ≡ true → lacks is_space (join_with_byte 47 ss) ≡ true
joined_lacks [] g = refl
joined_lacks (s ∷ []) g = first_true _ true g
joined_lacks (s ∷ t ∷ ss) g =
    let both = and_parts (lacks is_space s) (list_all (lacks is_space) (t ∷ ss)) g in
    cc (list_all-append (λ c. not (is_space c)) s (47 ∷ join_with_byte 47 (t ∷ ss)), both.0, joined_lacks (t ∷ ss) both.1)

-- What stands between the slashes of a text.

onto_first-append : {X : Type 0} (x : X) (a b : List (List X)) → 0 < length a → onto_first x (a ++ b) ≡ onto_first x a ++ b
onto_first-append x [] b h = absurd (omega arith)
onto_first-append x (part ∷ a) b h = refl

-- a text that is cut at one place more
slice_split-around : {X : Type 0} (p : X → Bool) (xs : List X) (y : X) (ys : List X) → p y ≡ true
    → slice_split p (xs ++ y ∷ ys) ≡ slice_split p xs ++ slice_split p ys
slice_split-around p [] y ys h = slice_split-cons_yes p y ys h
slice_split-around p (x ∷ xs) y ys h =
    grind (arith, slice_split-cons_yes, slice_split-cons_no, length-slice_split, onto_first-append, slice_split-around p xs y ys h)

one_part : (s : List ℕ) → lacks is_slash s ≡ true → ranks s ≡ s ∷ []
one_part [] h = refl
one_part (c ∷ s) h = let both = and_parts (not (is_slash c)) (lacks is_slash s) h in
    cc (slice_split-cons_no is_slash c s (not-true _ both.0), one_part s both.1)

-- what was joined by slashes
joined_ranks : (s : List ℕ) (ss : List (List ℕ)) → list_all (lacks is_slash) (s ∷ ss) ≡ true
    → ranks (join_with_byte 47 (s ∷ ss)) ≡ s ∷ ss
joined_ranks s [] h = one_part s (first_true _ true h)
joined_ranks s (t ∷ ss) h =
    let both = and_parts (lacks is_slash s) (list_all (lacks is_slash) (t ∷ ss)) h in
    cc (slice_split-around is_slash s 47 (join_with_byte 47 (t ∷ ss)) refl, one_part s both.0, joined_ranks t ss both.1)

eight_ranks : (ss : List (List ℕ)) → length ss ≡ 8 → list_all is_rank ss ≡ true → ranks (join_with_byte 47 ss) ≡ ss
eight_ranks [] e h = absurd (omega arith)
eight_ranks (s ∷ ss) e h = joined_ranks s ss (ranks_lack 47 refl (s ∷ ss) h)

pub board_read : (s : List ℕ) (b : Board) → SpellsBoard s b → placement_of s ≡ Some b
board_read s b spells = grind (arith, common_steps, eight_ranks)

pub board_lacks : (s : List ℕ) (b : Board) → SpellsBoard s b → lacks is_space s ≡ true
board_lacks s b spells = cc (joined_lacks spells.rank_texts (ranks_lack 32 refl spells.rank_texts spells.each))

-- Fields 2 and 3.

pub side_read : (c : Colour) → side_of (side_text c) ≡ Some c
side_read c = grind arith

side_lacks : (c : Colour) → lacks is_space (side_text c) ≡ true
side_lacks c = grind arith

pub record RightsRead (r : Rights) : Type 0 where
  pub read : rights_of (rights_text r) ≡ Some r
  pub alone : lacks is_space (rights_text r) ≡ true

pub rights_read : (a b c d : Bool) → RightsRead (record { white_short = a; white_long = b; black_short = c; black_long = d })
rights_read a b c d = grind arith

-- Field 4.

shifted : (n k : ℕ) → k + n - k ≡ n
shifted n k = omega arith

text_fits : (c : Colour) (t : Square) → target_fits c (Some t) ≡ true → is_target (97 + t.file) (49 + t.rank) ≡ true
text_fits c t h = grind (arith, nat_tests)

pub target_read : (c : Colour) (t : Option Square) → target_fits c t ≡ true → target_of (target_text t) ≡ Some t
target_read c None h = refl
target_read c (Some t) h = rw (text_fits c t h) (ap₂ (λ file rank. Some (Some (square file rank))) (shifted t.file 97) (shifted t.rank 49))

target_lacks : (t : Option Square) → lacks is_space (target_text t) ≡ true
target_lacks None = refl
target_lacks (Some t) = grind (arith, common_steps, nat_tests)

-- Fields 5 and 6.

pub number_read : (s : List ℕ) (n : ℕ) → SpellsNumber s n → number_of s ≡ Some n
number_read s n spells = let digits_alone = spells.digits_alone in rw digits_alone (ap Some (sym spells.number))

number_lacks : (s : List ℕ) (n : ℕ) → SpellsNumber s n → lacks is_space s ≡ true
number_lacks s n spells = all_lack is_digit 32 refl s (first_true _ (nat_le 1 (length s) && nat_le (length s) 5) spells.digits_alone)

-- The whole.

all_spelled : (p : Parts) (b : Option Board) (c : Option Colour) (r : Option Rights) (t : Option (Option Square)) (m n : Option ℕ)
    → b ≡ Some p.board → c ≡ Some p.side → r ≡ Some p.rights → t ≡ Some p.target → m ≡ Some p.half → n ≡ Some p.full
    → parts_or_fault b c r t m n ≡ Ok p
all_spelled p b c r t m n e f g h i j = rw (e, f, g, h, i, j) refl

pub spelled_is_read : (s : List ℕ) (p : Parts) → Fen s p → read s ≡ Ok p
spelled_is_read s p fen =
    let rights = rights_read p.rights.white_short p.rights.white_long p.rights.black_short p.rights.black_long in
    let fields =
    six_fields fen.board (side_text p.side) (rights_text p.rights) (target_text p.target) fen.half fen.full
    (board_lacks fen.board p.board fen.spells_board) (side_lacks p.side) rights.alone
    (target_lacks p.target) (number_lacks fen.half p.half fen.spells_half) in
    let parts =
    all_spelled p _ _ _ _ _ _
    (ap placement_of fields.first ∙ board_read fen.board p.board fen.spells_board)
    (ap side_of fields.second ∙ side_read p.side)
    (ap rights_of fields.third ∙ rights.read)
    (ap target_of fields.fourth ∙ target_read p.side p.target (last_rules p fen.position).0)
    (ap number_of fields.fifth ∙ number_read fen.half p.half fen.spells_half)
    (ap number_of fields.sixth ∙ number_read fen.full p.full fen.spells_full) in
    let position = fen.position in
    ap read fen.joined ∙ rw (parts, position) refl
