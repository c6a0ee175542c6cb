-- **Definition**: what the text of a move says by itself, before a position gives it a meaning.
-- That is the pattern of standard algebraic notation, and what is accepted beside it (PGN 8.2.3).
use Rattle.std.specs.Prelude.{◌≡◌, ℕ, ◌-◌, Bool, true, false, ◌&&◌, List, [], ◌∷◌, ◌++◌, Option, None, Some, length, take, find, slice_index, is_some, bytes_eq, codes, ◌==◌, nat_le, nat_lt, if◌then◌else◌, IsTrue, ◌||◌}
use Rattle.std.specs.List.{list_all, list_any}
use Rattle.chess_rules.specs.declared.piece.Kind.{Kind}
use Rattle.chess_rules.specs.declared.piece.Kind.TheVariants.{Pawn}
use Rattle.chess_rules.specs.declared.piece.Promotion.{Promotion}
use Rattle.chess_rules.specs.declared.piece.Promotion.TheVariants.{Queen, Rook, Bishop, Knight}
use Rattle.chess_rules.specs.Square.{Square, square, on_board}
use Rattle.chess_rules.specs.Step.{kind_of}
use Rattle.chess_text.specs.declared.form.Form.{Form}
use Rattle.chess_text.specs.declared.form.Form.TheVariants.{Castle, Man}
use Rattle.chess_text.specs.Letter.{letter, kinds, file_letter, rank_digit, square_text}

abbrev pub promotion_letter : Promotion → ℕ
promotion_letter q = letter (kind_of q)

-- The text of a form: [KQRBNP]? [a-h]? [1-8]? x? [a-h][1-8] (=?[QRBN])? [+#]*, or castling
-- and then marks.

-- the ways to write each part
abbrev pub letter_texts : Kind → List (List ℕ)
letter_texts Pawn = [] ∷ codes "P" ∷ []
letter_texts k = (letter k ∷ []) ∷ []

abbrev pub hint_text : (ℕ → ℕ) → Option ℕ → List ℕ
hint_text text None = []
hint_text text (Some n) = text n ∷ []

abbrev pub capture_texts : List (List ℕ)
capture_texts = [] ∷ codes "x" ∷ []

abbrev pub promotion_texts : Option Promotion → List (List ℕ)
promotion_texts None = [] ∷ []
promotion_texts (Some q) = (promotion_letter q ∷ []) ∷ (codes "=" ++ promotion_letter q ∷ []) ∷ []

abbrev pub castle_texts : Bool → List (List ℕ)
castle_texts false = codes "O-O" ∷ codes "0-0" ∷ []
castle_texts true = codes "O-O-O" ∷ codes "0-0-0" ∷ []

abbrev pub is_among : List ℕ → List (List ℕ) → Bool
is_among s texts = list_any (bytes_eq s) texts

-- the letter, the hints, a capture's x, the target and the promotion, in this order (8.2.3.2 to
-- 8.2.3.4)
pub record SpellsPieceMove (s : List ℕ) (k : Kind) (file rank : Option ℕ) (to : Square) (promotion : Option Promotion) : Type 0 where
  pub letters : List ℕ
  pub capture : List ℕ
  pub promoted : List ℕ
  pub joined : s ≡ letters ++ hint_text file_letter file ++ hint_text rank_digit rank ++ capture ++ square_text to ++ promoted
  pub letters_fit : IsTrue (is_among letters (letter_texts k))
  pub capture_fits : IsTrue (is_among capture capture_texts)
  pub promoted_fits : IsTrue (is_among promoted (promotion_texts promotion))

abbrev pub SpellsBare : List ℕ → Form → Type 0
SpellsBare s (Castle long) = IsTrue (is_among s (castle_texts long))
SpellsBare s (Man k file rank to promotion) = SpellsPieceMove s k file rank to promotion

-- + and # (8.2.3.5)
abbrev pub is_mark : ℕ → Bool
is_mark c = (c == 43) || (c == 35)

-- s spells the form f: its text and then any marks
pub record Spells (s : List ℕ) (f : Form) : Type 0 where
  pub bare : List ℕ
  pub marks : List ℕ
  pub joined : s ≡ bare ++ marks
  pub spells_bare : SpellsBare bare f
  pub marks_alone : IsTrue (list_all is_mark marks)

-- A form's hints are files and ranks of the board, and so is its target.

abbrev pub below_eight : Option ℕ → Bool
below_eight None = true
below_eight (Some n) = nat_lt n 8

abbrev pub is_form : Form → Bool
is_form (Castle long) = true
is_form (Man k file rank to promotion) = (below_eight file && below_eight rank) && on_board to

-- The same as a function of the text, read from its end.

-- the last byte, or 0; and the text before it
abbrev pub last_byte : List ℕ → ℕ
last_byte s = slice_index s (length s - 1)

abbrev pub front : List ℕ → List ℕ
front s = take (length s - 1) s

-- the text before the last byte if b is true, else the whole text
abbrev pub front_if : Bool → List ℕ → List ℕ
front_if b s = if b then front s else s

-- the text before the marks at the end
abbrev pub before_marks : List ℕ → List ℕ
before_marks [] = []
before_marks (c ∷ s) = if list_all is_mark (c ∷ s) then [] else c ∷ before_marks s

abbrev pub file_of : ℕ → Option ℕ
file_of c = if nat_le 97 c && nat_le c 104 then Some (c - 97) else None

abbrev pub rank_of : ℕ → Option ℕ
rank_of c = if nat_le 49 c && nat_le c 56 then Some (c - 49) else None

abbrev pub promotions : List Promotion
promotions = Queen ∷ Rook ∷ Bishop ∷ Knight ∷ []

abbrev pub promotion_of : ℕ → Option Promotion
promotion_of c = find (λ q. promotion_letter q == c) promotions

abbrev pub promotion_at_end : List ℕ → Option Promotion
promotion_at_end s = promotion_of (last_byte s)

abbrev pub before_sign : List ℕ → List ℕ
before_sign s = front_if (last_byte s == 61) s

abbrev pub before_promotion : List ℕ → List ℕ
before_promotion s = if is_some (promotion_at_end s) then before_sign (front s) else s

abbrev pub square_of : Option ℕ → Option ℕ → Option Square
square_of None rank = None
square_of (Some file) None = None
square_of (Some file) (Some rank) = Some (square file rank)

abbrev pub target_at_end : List ℕ → Option Square
target_at_end s = square_of (file_of (last_byte (front s))) (rank_of (last_byte s))

abbrev pub before_capture : List ℕ → List ℕ
before_capture s = front_if (last_byte s == 120) s

-- the text before the target, and before the x
abbrev pub before_target : List ℕ → List ℕ
before_target s = before_capture (front (front s))

abbrev pub rank_at_end : List ℕ → Option ℕ
rank_at_end s = rank_of (last_byte s)

abbrev pub before_rank : List ℕ → List ℕ
before_rank s = front_if (is_some (rank_at_end s)) s

abbrev pub file_at_end : List ℕ → Option ℕ
file_at_end s = file_of (last_byte s)

abbrev pub before_file : List ℕ → List ℕ
before_file s = front_if (is_some (file_at_end s)) s

-- the kind of a letter; no letter is a pawn
abbrev pub kind_of_text : List ℕ → Option Kind
kind_of_text [] = Some Pawn
kind_of_text (c ∷ []) = find (λ k. letter k == c) kinds
kind_of_text (c ∷ d ∷ s) = None

abbrev pub piece_move_if : Option Kind → Option ℕ → Option ℕ → Option Square → Option Promotion → Option Form
piece_move_if k file rank None promotion = None
piece_move_if None file rank (Some to) promotion = None
piece_move_if (Some k) file rank (Some to) promotion = Some (Man k file rank to promotion)

-- the form of the hints and the letter before the target
abbrev pub piece_move_before : List ℕ → Option Square → Option Promotion → Option Form
piece_move_before s to promotion =
    piece_move_if (kind_of_text (before_file (before_rank s))) (file_at_end (before_rank s)) (rank_at_end s) to promotion

abbrev pub piece_move_at : List ℕ → Option Promotion → Option Form
piece_move_at s promotion = piece_move_before (before_target s) (target_at_end s) promotion

abbrev pub piece_move_of : List ℕ → Option Form
piece_move_of s = piece_move_at (before_promotion s) (promotion_at_end s)

abbrev pub castle_of : List ℕ → Option Bool
castle_of s = find (λ long. is_among s (castle_texts long)) (false ∷ true ∷ [])

abbrev pub castle_or : Option Bool → Option Form → Option Form
castle_or None piece_move = piece_move
castle_or (Some long) piece_move = Some (Castle long)

abbrev pub bare_form : List ℕ → Option Form
bare_form s = castle_or (castle_of s) (piece_move_of s)

-- the form that the text spells
abbrev pub form_of : List ℕ → Option Form
form_of s = bare_form (before_marks s)
