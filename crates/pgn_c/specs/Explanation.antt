-- **Definition**: what a move's text means in a position, as C gets it.
-- Letters: p is a position, f a form, s a square.
use Rattle.std.specs.Prelude.{ℕ, ◌+◌, ◌*◌, true, false, List, map, replicate, Option, Some, None, Result, Ok, Err}
use Rattle.chess_rules.specs.declared.position.Parts.{Parts}
use Rattle.chess_rules.specs.Square.{Square}
use Rattle.chess_text.specs.declared.fen.FenFault.{FenFault}
use Rattle.chess_text.specs.declared.form.Form.{Form}
use Rattle.chess_text.specs.declared.form.Form.TheVariants.{Castle, Man}
use Rattle.chess_text.specs.declared.form_origins.OriginKind.{OriginKind}
use Rattle.chess_text.specs.declared.form_origins.OriginKind.TheVariants.{NoStep, Unsafe, Legal}
use Rattle.chess_text.specs.Form.{form_of}
use Rattle.chess_text.specs.FormOrigins.{kind_of_form, target_of_form, origins_of_form}
use Rattle.chess_text.specs.Letter.{letter}
use Rattle.pgn_c.specs.declared.explanation.PgnExplanation.{PgnExplanation}

-- the number of a form in C: 1 for a piece or a pawn, 2 for castling on the king's side, 3 on the
-- queen's
abbrev pub form_number : Form → ℕ
form_number (Man k file rank to promotion) = 1
form_number (Castle false) = 2
form_number (Castle true) = 3

-- what a square is to a form, as a number in C: 0 if no step from it agrees with the form; 1 if one
-- does, but its king would be in check; 2 if a legal move does
abbrev pub origin_number : OriginKind → ℕ
origin_number NoStep = 0
origin_number Unsafe = 1
origin_number Legal = 2

-- the number of a square, rank by rank from a1
abbrev pub square_number : Square → ℕ
square_number s = 8 * s.rank + s.file

-- the result for a form: its piece, its target, and what each square is to it
abbrev pub form_result : Parts → Form → PgnExplanation
form_result p f =
    record {
      status = 0;
      fault = 0;
      field = 0;
      form = form_number f;
      piece = letter (kind_of_form f);
      target = square_number (target_of_form p.side f);
      origins = map origin_number (origins_of_form p f);
    }

-- the result for a fault, with the field of the FEN, or 0
abbrev pub fault_result : ℕ → ℕ → PgnExplanation
fault_result fault field =
    record { status = 1; fault = fault; field = field; form = 0; piece = 0; target = 0; origins = replicate 64 0 }

-- the result for a form, if the text spells one; else 33
abbrev pub explanation_in : Parts → Option Form → PgnExplanation
explanation_in p (Some f) = form_result p f
explanation_in p None = fault_result 33 0

-- the same for a FEN that is read first; one that is no position is 26, with the field at fault
abbrev pub explanation : Result Parts FenFault → List ℕ → PgnExplanation
explanation (Ok p) text = explanation_in p (form_of text)
explanation (Err fault) text = fault_result 26 fault.field
