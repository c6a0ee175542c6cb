-- **Bookkeeping**: what the code keeps of the text behind tag pairs, byte by byte.
use Rattle.std.specs.Prelude.{ℕ, Bool, true, false, ◌||◌, ◌&&◌, Option, None, Some, ◌==◌, if◌then◌else◌}
use Rattle.pgn_lexer.specs.Bytes.{is_space}
use Rattle.pgn_sections.specs.Outside.{comment_after, is_closed, outside_byte}
use Rattle.pgn_sections.specs.Shape.{begun, shape_with, text_of_shape}
use Rattle.pgn_sections.specs.declared.outside.Comment.{Comment}
use Rattle.pgn_sections.specs.declared.outside.Comment.TheVariants.{Closed, Braces, RestOfLine}
use Rattle.pgn_sections.specs.declared.outside.OutsideText.{OutsideText}
use Rattle.pgn_sections.specs.declared.outside.Shape.{Shape}
use Rattle.pgn_sections.specs.declared.text.MarkerFronts.{MarkerFronts}
use Rattle.pgn_sections.specs.declared.text.Text.{Text}
use Rattle.pgn_sections.specs.declared.text.Word.{Word}

-- A word that ends with the front of a termination marker ends with one more byte of it if that
-- byte follows.
abbrev pub fronts_with : MarkerFronts → ℕ → MarkerFronts
fronts_with f b =
    record {
      one = b == 49;
      one_dash = f.one && (b == 45);
      white_wins = f.one_dash && (b == 48);
      zero = b == 48;
      zero_dash = f.zero && (b == 45);
      black_wins = f.zero_dash && (b == 49);
      one_slash = f.one && (b == 47);
      half = f.one_slash && (b == 50);
      half_dash = f.half && (b == 45);
      half_one = f.half_dash && (b == 49);
      half_slash = f.half_one && (b == 47);
      draw = f.half_slash && (b == 50);
      asterisk = b == 42;
    }

abbrev pub no_fronts : MarkerFronts
no_fronts =
    record {
      one = false;
      one_dash = false;
      white_wins = false;
      zero = false;
      zero_dash = false;
      black_wins = false;
      one_slash = false;
      half = false;
      half_dash = false;
      half_one = false;
      half_slash = false;
      draw = false;
      asterisk = false;
    }

-- the word ends with a termination marker
abbrev pub has_marker : MarkerFronts → Bool
has_marker f = f.white_wins || f.black_wins || f.draw || f.asterisk

abbrev pub no_word : Word
no_word = record { fronts = no_fronts; is_ended = true }

abbrev pub word_with : Word → ℕ → Word
word_with w b =
    if is_space b then record w { is_ended = true }
    else record { fronts = fronts_with (if w.is_ended then no_fronts else w.fronts) b; is_ended = false }

-- with a byte, if it is outside comments
abbrev pub shape_with_seen : Shape → Option ℕ → Shape
shape_with_seen a None = a
shape_with_seen a (Some b) = shape_with a b

abbrev pub word_with_seen : Word → Option ℕ → Word
word_with_seen w None = w
word_with_seen w (Some b) = word_with w b

-- before the first byte, in a comment that is open or not
abbrev pub text_from : Comment → Option ℕ → Text
text_from c o = record { comment = c; comment_at = o; shape = begun; word = no_word }

abbrev pub nothing_read : Text
nothing_read = text_from Closed None

-- with the byte at this place
abbrev pub text_with : Text → ℕ → ℕ → Text
text_with t place b =
    record {
      comment = comment_after t.comment b;
      comment_at = if is_closed t.comment && (b == 123) then Some place else t.comment_at;
      shape = shape_with_seen t.shape (outside_byte t.comment b);
      word = word_with_seen t.word (outside_byte t.comment b);
    }

-- where the comment begins that is open
abbrev pub comment_in : Comment → Option ℕ → Option ℕ
comment_in Closed o = None
comment_in Braces o = o
comment_in RestOfLine o = None

abbrev pub comment_of : Text → Option ℕ
comment_of t = comment_in t.comment t.comment_at

abbrev pub outside_of : Text → OutsideText
outside_of t = text_of_shape t.shape (has_marker t.word.fronts)
