-- The laws of the definitions of texts.
use Rattle.chess_text.proofs.Words.{◌≡◌, ℕ, ◌+◌, true, List, [], ◌∷◌, sym, ◌∙◌, ap, arith, or_cases, cond_some, Option, Some, Err, is_some, prefix_len, Colour, Rights, Square, Board, target_fits, FenFault, side_of, rights_of, target_of, parts_or_fault, if_position, common_steps, CanonicalFits, FaultIsLowest, FenOnce, FieldsAreSpellings, ReadingIsSpelling}
use Rattle.chess_text.proofs.positions.FieldsOfText.{length-fen_text}
use Rattle.chess_text.proofs.positions.SpellingToReading.{spelled_is_read, board_read, side_read, rights_read, target_read, number_read}
use Rattle.chess_text.proofs.positions.ReadingToSpelling.{read_is_spelled, board_spelled, side_spelled, rights_spelled, target_spelled, number_spelled}
use Rattle.chess_text.proofs.positions.CanonicalText.{half_low, full_low}

pub reading_is_spelling : ReadingIsSpelling
reading_is_spelling s p = (spelled_is_read s p, read_is_spelled s p)

pub once : FenOnce
once s p q f g = let same = sym (spelled_is_read s p f) ∙ spelled_is_read s q g in cc

lowest_of : (b : Option Board) (c : Option Colour) (r : Option Rights) (t : Option (Option Square)) (m n : Option ℕ) (fault : FenFault)
    → if_position (parts_or_fault b c r t m n) ≡ Err fault
    → fault.field ≡ prefix_len (λ x. x) (is_some b ∷ is_some c ∷ is_some r ∷ is_some t ∷ is_some m ∷ is_some n ∷ []) + 1
lowest_of b c r t m n fault h = grind arith

pub lowest : FaultIsLowest
lowest s fault h = lowest_of _ _ _ _ _ _ fault h

pub fits : CanonicalFits
fits p h = length-fen_text p (half_low p h) (full_low p h)

target_side : (s : List ℕ) (t : Option Square) → target_of s ≡ Some t → (c : Colour) × (target_fits c t ≡ true)
target_side s t h = grind (arith, common_steps, cond_some, or_cases)

pub fields : FieldsAreSpellings
fields =
    record {
      boards = λ s b. (board_read s b, board_spelled s b);
      sides = λ s c. (λ h. ap side_of h ∙ side_read c, side_spelled s c);
      rights = λ s r. (λ h. ap rights_of h ∙ (rights_read _ _ _ _).read, rights_spelled s r);
      targets = λ s t. (
        λ h. ap target_of h.text ∙ target_read h.side t h.fits,
        λ h. let found = target_side s t h in record { text = target_spelled s t h; side = found.0; fits = found.1 },
      );
      numbers = λ s n. (number_read s n, number_spelled s n);
    }
