-- **Bookkeeping**: what the code keeps of the text outside comments, byte by byte.
use Rattle.std.specs.Prelude.{ℕ, Bool, false, not, ◌||◌, ◌&&◌, List, [], ◌∷◌, None, Some, is_some, ◌==◌, if◌then◌else◌}
use Rattle.pgn_lexer.specs.Bytes.{is_space}
use Rattle.pgn_sections.specs.Outside.{number_after, is_byte, is_found}
use Rattle.pgn_sections.specs.declared.outside.Number.TheVariants.{Blank}
use Rattle.pgn_sections.specs.declared.outside.OutsideText.{OutsideText}
use Rattle.pgn_sections.specs.declared.outside.Shape.{Shape}

-- before the first byte
abbrev pub begun : Shape
begun = record { first = None; last = None; has_bracket = false; number = Blank; number_behind_bracket = Blank }

-- with one byte more
abbrev pub shape_with : Shape → ℕ → Shape
shape_with a b =
    record {
      first = if is_space b || is_some a.first then a.first else Some b;
      last = if is_space b then a.last else Some b;
      has_bracket = a.has_bracket || (b == 93);
      number = number_after a.number b;
      number_behind_bracket = if b == 93 then Blank else number_after a.number_behind_bracket b;
    }

-- with the bytes of a text
abbrev pub shape_over : Shape → List ℕ → Shape
shape_over a [] = a
shape_over a (b ∷ s) = shape_over (shape_with a b) s

abbrev pub shape_has_text : Shape → Bool
shape_has_text a = is_some a.first && not (is_byte 93 a.last) && (not (is_byte 91 a.first) || a.has_bracket)

abbrev pub shape_has_number : Shape → Bool
shape_has_number a = if is_byte 91 a.first then is_found a.number_behind_bracket else is_found a.number

-- what is seen of the text, if its last word ends with a marker or not
abbrev pub text_of_shape : Shape → Bool → OutsideText
text_of_shape a is_marked =
    record {
      has_tag = is_byte 91 a.first || is_byte 93 a.last;
      has_text = shape_has_text a;
      is_movetext = shape_has_number a || is_marked;
    }
