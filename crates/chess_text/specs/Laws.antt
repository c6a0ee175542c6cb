-- **Definition**: what the laws say of the texts of positions and moves.
use Rattle.std.specs.Prelude.{◌≡◌, ◌≢◌, ◌+◌, ◌<◌, ◌≤◌, ◌↔◌, Bool, List, [], ◌∷◌, ◌++◌, ℕ, Option, Some, Ok, Err, length, slice_index_or, is_some, IsTrue}
use Rattle.std.specs.List.{prefix_len}
use Rattle.chess_rules.specs.declared.position.Move.{Move}
use Rattle.chess_rules.specs.declared.piece.Colour.{Colour}
use Rattle.chess_rules.specs.declared.position.Rights.{Rights}
use Rattle.chess_rules.specs.declared.position.Parts.{Parts}
use Rattle.chess_rules.specs.Square.{Square}
use Rattle.chess_rules.specs.Board.{Board}
use Rattle.chess_rules.specs.Position.{is_position, target_fits}
use Rattle.chess_rules.specs.declared.piece.Kind.{Kind}
use Rattle.chess_rules.specs.Step.{own}
use Rattle.chess_rules.specs.Legal.{legal, is_legal}
use Rattle.chess_text.specs.declared.fen.FenFault.{FenFault}
use Rattle.chess_text.specs.declared.form.Form.{Form}
use Rattle.chess_rules.specs.declared.position.Played.{Played}
use Rattle.chess_text.specs.declared.resolution.SanFault.TheVariants.{NoMove, Ambiguous}
use Rattle.chess_text.specs.Placement.{placement_of}
use Rattle.chess_text.specs.Field.{side_text, side_of, rights_text, rights_of, target_text, target_of, number_of}
use Rattle.chess_text.specs.Fen.{SpellsBoard, SpellsNumber, Fen, field, read, fen_text}
use Rattle.chess_text.specs.Form.{Spells, is_form, form_of}
use Rattle.chess_text.specs.Letter.{letter, file_letter, rank_digit, square_text}
use Rattle.chess_text.specs.MoveOfForm.{agrees, move_of_form}
use Rattle.chess_text.specs.San.{rivals, disambiguation, has_rivals, capture_text, mark, san}

-- a text is read as the position that it spells
abbrev pub ReadingIsSpelling : Type 0
ReadingIsSpelling = (s : List ℕ) (p : Parts) → Fen s p ↔ (read s ≡ Ok p)

-- a text spells at most one position
abbrev pub FenOnce : Type 0
FenOnce = (s : List ℕ) (p q : Parts) → Fen s p → Fen s q → p ≡ q

-- the canonical text of a position spells it
abbrev pub CanonicalSpells : Type 0
CanonicalSpells = (p : Parts) → IsTrue (is_position p) → Fen (fen_text p) p

-- the canonical text has at most 93 bytes
abbrev pub CanonicalFits : Type 0
CanonicalFits = (p : Parts) → IsTrue (is_position p) → length (fen_text p) ≤ 93

-- no text of the position is shorter than the canonical one: no run is split, no zero leads
abbrev pub CanonicalIsShortest : Type 0
CanonicalIsShortest = (s : List ℕ) (p : Parts) → Fen s p → length (fen_text p) ≤ length s

-- a square that is the target of some position, or none, and its text
pub record SpellsTarget (s : List ℕ) (t : Option Square) : Type 0 where
  pub text : s ≡ target_text t
  pub side : Colour
  pub fits : IsTrue (target_fits side t)

-- Each part is read from exactly the texts that spell it.
pub record FieldsAreSpellings : Type 0 where
  pub boards : (s : List ℕ) (b : Board) → SpellsBoard s b ↔ (placement_of s ≡ Some b)
  pub sides : (s : List ℕ) (c : Colour) → (s ≡ side_text c) ↔ (side_of s ≡ Some c)
  pub rights : (s : List ℕ) (r : Rights) → (s ≡ rights_text r) ↔ (rights_of s ≡ Some r)
  pub targets : (s : List ℕ) (t : Option Square) → SpellsTarget s t ↔ (target_of s ≡ Some t)
  pub numbers : (s : List ℕ) (n : ℕ) → SpellsNumber s n ↔ (number_of s ≡ Some n)

-- which of the six fields of a text are spellings, in their order
abbrev pub spelled : List ℕ → List Bool
spelled s =
    is_some (placement_of (field 1 s)) ∷ is_some (side_of (field 2 s)) ∷ is_some (rights_of (field 3 s))
    ∷ is_some (target_of (field 4 s)) ∷ is_some (number_of (field 5 s)) ∷ is_some (number_of (field 6 s)) ∷ []

-- the field at fault is the first that is no spelling, or 7 if all six are
abbrev pub FaultIsLowest : Type 0
FaultIsLowest = (s : List ℕ) (fault : FenFault) → read s ≡ Err fault → fault.field ≡ prefix_len (λ b. b) (spelled s) + 1

-- the text of a move is read as the form that it spells
abbrev pub ReadingAFormIsSpelling : Type 0
ReadingAFormIsSpelling = (s : List ℕ) (f : Form) → (Spells s f × IsTrue (is_form f)) ↔ (form_of s ≡ Some f)

-- a text spells at most one form
abbrev pub FormOnce : Type 0
FormOnce = (s : List ℕ) (f g : Form) → IsTrue (is_form f) → IsTrue (is_form g) → Spells s f → Spells s g → f ≡ g

-- a form is read as the one move that agrees, with the position after it
abbrev pub TheOneMoveIsRead : Type 0
TheOneMoveIsRead =
    (p : Parts) (f : Form) (x : Played)
    → (move_of_form p f ≡ Ok x) ↔ (IsTrue (agrees p f x.mv) × (legal p x.mv ≡ Some x.next) × ((m : Move) → IsTrue (agrees p f m) → m ≡ x.mv))

-- the fault is NoMove exactly if no move agrees
abbrev pub NoMoveIsRead : Type 0
NoMoveIsRead = (p : Parts) (f : Form) → (move_of_form p f ≡ Err NoMove) ↔ ((m : Move) → ¬ IsTrue (agrees p f m))

-- the fault is Ambiguous exactly if two or more moves agree
abbrev pub TwoMovesAreAmbiguous : Type 0
TwoMovesAreAmbiguous =
    (p : Parts) (f : Form)
    → (move_of_form p f ≡ Err Ambiguous) ↔ ((m : Move) × (n : Move) × (m ≢ n) × IsTrue (agrees p f m) × IsTrue (agrees p f n))

-- the text names the move: it spells a form with which the move agrees
abbrev pub Names : Parts → List ℕ → Move → Type 0
Names p s m = (f : Form) × Spells s f × IsTrue (is_form f) × IsTrue (agrees p f m)

-- the text that is written for a legal move names this move and no other
abbrev pub SingleReading : Type 0
SingleReading =
    (p : Parts) (m : Move) → IsTrue (is_position p) → IsTrue (is_legal p m) → Names p (san p m) m × ((n : Move) → Names p (san p m) n → n ≡ m)

-- the disambiguations of an origin, in their order (PGN 8.2.3.4)
abbrev pub disambiguations : Square → List (List ℕ)
disambiguations s = [] ∷ (file_letter s.file ∷ []) ∷ (rank_digit s.rank ∷ []) ∷ square_text s ∷ []

-- the text of the move of a queen, rook, bishop or knight with this disambiguation
abbrev pub text_with : Parts → Kind → Move → List ℕ → List ℕ
text_with p k m apart = ((letter k ∷ []) ++ apart ++ capture_text p m ++ square_text m.to) ++ mark (legal p m)

-- Less disambiguation is ambiguous: with an earlier one than is written, the text names the move
-- and another one.
abbrev pub ShorterIsAmbiguous : Type 0
ShorterIsAmbiguous =
    (p : Parts) (k : Kind) (m : Move) (i j : ℕ)
    → IsTrue (is_legal p m) → IsTrue (own p k m.from) → IsTrue (has_rivals k)
    → i < j → j < 4 → disambiguation m.from (rivals p k m) ≡ slice_index_or (disambiguations m.from) j []
    → Names p (text_with p k m (slice_index_or (disambiguations m.from) i [])) m
    × ((n : Move) × (n ≢ m) × Names p (text_with p k m (slice_index_or (disambiguations m.from) i [])) n)
