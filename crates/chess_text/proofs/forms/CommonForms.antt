-- The forms of texts of the commonest shapes.
use Rattle.chess_text.proofs.Words.{◌≡◌, ℕ, true, ◌&&◌, List, [], ◌∷◌, ◌++◌, length, get_or, append-nil, refl, sym, ap, ap₂, arith, Option, None, Some, IfSome, codes, Kind, Pawn, Square, Form, Man, file_letter, square_text, is_among, letter_texts, hint_text, capture_texts, below_eight, file_of, rank_of, square_of, kind_of_text, piece_move_if, form_of}
use Rattle.chess_text.proofs.forms.SpellingToForm.{form_read}
use Rattle.chess_text.proofs.forms.FormToSpelling.{file_byte, target_spelled, kind_spelled}

-- the text is read as the form that was told, if one was
abbrev Reads : Option Form → List ℕ → Type 0
Reads moved s = IfSome moved (λ f. form_of s ≡ Some f)

abbrev move_to : Kind → Option ℕ → ℕ → ℕ → Option Form
move_to k file a b = piece_move_if (Some k) file None (square_of (file_of a) (rank_of b)) None

-- what the last two bytes say, where what stands before them is known
module _ (k : Kind) (file : Option ℕ) (a b : ℕ) (moved : Option Form) (is : moved ≡ move_to k file a b) where
  -- s is the whole text: the letters, the file, the x and the two bytes
  reads : (s letters capture : List ℕ) → is_among letters (letter_texts k) ≡ true
      → is_among capture capture_texts ≡ true → below_eight file ≡ true → ((to : Square) → a ∷ b ∷ [] ≡ square_text to
      → s ≡ letters ++ hint_text file_letter file ++ [] ++ capture ++ square_text to ++ []) → Reads moved s
  reads s letters capture letters_fit capture_fits below joined =
      rw is (by_target (square_of (file_of a) (rank_of b)) refl)
    where
      by_target : (o : Option Square) → square_of (file_of a) (rank_of b) ≡ o → Reads (piece_move_if (Some k) file None o None) s
      by_target None e = tt
      by_target (Some to) e =
          let target = target_spelled (a ∷ b ∷ []) to e in
          cc (form_read s (Man k file None to None)
          (record {
            bare = s;
            marks = [];
            joined = sym (append-nil s);
            spells_bare = record { letters = letters; capture = capture; promoted = []; joined = joined to target.0; letters_fit = letters_fit; capture_fits = capture_fits; promoted_fits = refl };
            marks_alone = refl;
          })
          (ap₂ (λ x y. (x && true) && y) below target.1))

-- e4
pub pawn_move : (s : List ℕ) (moved : Option Form) → length s ≡ 2
    → moved ≡ move_to Pawn None (get_or s 0 0) (get_or s 1 0) → Reads moved s
pawn_move (a ∷ b ∷ []) moved two is = reads Pawn None a b moved is (a ∷ b ∷ []) [] [] refl refl refl (λ to e. e)
pawn_move s moved two is = absurd (omega arith)

-- Nf3
pub piece_move : (s : List ℕ) (k : Kind) (moved : Option Form) → length s ≡ 3 → kind_of_text (get_or s 0 0 ∷ []) ≡ Some k
    → moved ≡ move_to k None (get_or s 1 0) (get_or s 2 0) → Reads moved s
piece_move (c ∷ a ∷ b ∷ []) k moved three named is =
    reads k None a b moved is (c ∷ a ∷ b ∷ []) (c ∷ []) [] (kind_spelled (c ∷ []) k named) refl refl (λ to e. ap (λ t. c ∷ t) e)
piece_move s k moved three named is = absurd (omega arith)

-- Nxf3
pub piece_capture : (c a b : ℕ) (k : Kind) (moved : Option Form) → kind_of_text (c ∷ []) ≡ Some k
    → moved ≡ move_to k None a b → Reads moved (c ∷ 120 ∷ a ∷ b ∷ [])
piece_capture c a b k moved named is =
    reads k None a b moved is (c ∷ 120 ∷ a ∷ b ∷ []) (c ∷ []) (codes "x")
    (kind_spelled (c ∷ []) k named) refl refl (λ to e. ap (λ t. c ∷ 120 ∷ t) e)

-- exd5
pub pawn_capture : (c a b file : ℕ) (moved : Option Form) → file_of c ≡ Some file
    → moved ≡ move_to Pawn (Some file) a b → Reads moved (c ∷ 120 ∷ a ∷ b ∷ [])
pawn_capture c a b file moved named is =
    let origin = file_byte c file named in
    reads Pawn (Some file) a b moved is (c ∷ 120 ∷ a ∷ b ∷ []) []
    (codes "x") refl refl origin.1 (λ to e. ap₂ (λ d t. d ∷ 120 ∷ t) origin.0 e)

-- a text of four bytes with an x in it
pub with_x : (s : List ℕ) (moved : Option Form) → length s ≡ 4 → get_or s 1 0 ≡ 120
    → Reads moved (get_or s 0 0 ∷ 120 ∷ get_or s 2 0 ∷ get_or s 3 0 ∷ []) → Reads moved s
with_x (c ∷ x ∷ a ∷ b ∷ []) moved four is h = rw is h
with_x s moved four is h = absurd (omega arith)
