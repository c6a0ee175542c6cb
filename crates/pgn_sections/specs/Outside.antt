-- **Definition**: what a line of a bad game has outside tag pairs and comments.
use Rattle.std.specs.Prelude.{ℕ, ◌+◌, Bool, true, false, not, ◌||◌, ◌&&◌, List, [], ◌∷◌, ◌++◌, Option, None, Some, is_some, ◌==◌, if◌then◌else◌, codes}
use Rattle.std.specs.List.{list_any, cons_option, ends_with}
use Rattle.pgn_lexer.specs.Bytes.{is_space, is_digit}
use Rattle.pgn_sections.specs.declared.outside.Comment.{Comment}
use Rattle.pgn_sections.specs.declared.outside.Comment.TheVariants.{Closed, Braces, RestOfLine}
use Rattle.pgn_sections.specs.declared.outside.Number.{Number}
use Rattle.pgn_sections.specs.declared.outside.Number.TheVariants.{Blank, Digits, BehindDigits, Found, Missing}
use Rattle.pgn_sections.specs.declared.outside.OutsideText.{OutsideText}

-- The text outside comments. Each comment counts as a space (32). One in braces may be open from a
-- line before, and a semicolon (59) begins one to the end of the line.

abbrev pub comment_after : Comment → ℕ → Comment
comment_after Closed b = if b == 123 then Braces else if b == 59 then RestOfLine else Closed
comment_after Braces b = if b == 125 then Closed else Braces
comment_after RestOfLine b = RestOfLine

abbrev pub outside_byte : Comment → ℕ → Option ℕ
outside_byte Closed b = Some (if (b == 123) || (b == 59) then 32 else b)
outside_byte Braces b = None
outside_byte RestOfLine b = None

abbrev pub without_comments : Comment → List ℕ → List ℕ
without_comments c [] = []
without_comments c (b ∷ s) = cons_option (outside_byte c b) (without_comments (comment_after c b) s)

abbrev pub is_closed : Comment → Bool
is_closed Closed = true
is_closed Braces = false
is_closed RestOfLine = false

-- Where the comment in braces begins that is open at the end of the line, if one is. The text is at
-- a place, and a comment from a line before begins at another.
abbrev pub open_comment : Comment → Option ℕ → ℕ → List ℕ → Option ℕ
open_comment Closed o place [] = None
open_comment Braces o place [] = o
open_comment RestOfLine o place [] = None
open_comment c o place (b ∷ s) =
    open_comment (comment_after c b) (if is_closed c && (b == 123) then Some place else o) (place + 1) s

-- the first byte that is no white space
abbrev pub first_text : List ℕ → Option ℕ
first_text [] = None
first_text (b ∷ s) = if is_space b then first_text s else Some b

-- the last one, or that of the text before
abbrev pub last_text : Option ℕ → List ℕ → Option ℕ
last_text o [] = o
last_text o (b ∷ s) = last_text (if is_space b then o else Some b) s

abbrev pub is_byte : ℕ → Option ℕ → Bool
is_byte b None = false
is_byte b (Some c) = c == b

-- Digits with a period behind them. White space may be before both.

abbrev pub number_after : Number → ℕ → Number
number_after Blank b = if is_digit b then Digits else if is_space b then Blank else Missing
number_after Digits b = if is_digit b then Digits else if b == 46 then Found else if is_space b then BehindDigits else Missing
number_after BehindDigits b = if b == 46 then Found else if is_space b then BehindDigits else Missing
number_after Found b = Found
number_after Missing b = Missing

abbrev pub number_at_front : Number → List ℕ → Number
number_at_front n [] = n
number_at_front n (b ∷ s) = number_at_front (number_after n b) s

-- the same behind the last right bracket (93)
abbrev pub number_behind_bracket : Number → List ℕ → Number
number_behind_bracket n [] = n
number_behind_bracket n (b ∷ s) = number_behind_bracket (if b == 93 then Blank else number_after n b) s

abbrev pub is_found : Number → Bool
is_found Blank = false
is_found Digits = false
is_found BehindDigits = false
is_found Found = true
is_found Missing = false

-- The last word: bytes without white space between them. The Bool says whether white space is
-- behind the word so far.
abbrev pub last_word : List ℕ → Bool → List ℕ → List ℕ
last_word w is_ended [] = w
last_word w is_ended (b ∷ s) =
    if is_space b then last_word w true s else last_word (if is_ended then b ∷ [] else w ++ b ∷ []) false s

-- the word ends with a termination marker
abbrev pub ends_with_marker : List ℕ → Bool
ends_with_marker w =
    ends_with ◌==◌ w (codes "1-0") || ends_with ◌==◌ w (codes "0-1") || ends_with ◌==◌ w (codes "1/2-1/2")
    || ends_with ◌==◌ w (codes "*")

abbrev pub begins_with_tag : List ℕ → Bool
begins_with_tag s = is_byte 91 (first_text s)

abbrev pub ends_with_tag : List ℕ → Bool
ends_with_tag s = is_byte 93 (last_text None s)

-- Text that is no tag pair. What a tag pair that is broken over lines has on this line is none: a
-- line that ends with a right bracket, and one that begins with a left bracket up to the last right
-- one, or all of it.
abbrev pub has_text : List ℕ → Bool
has_text s =
    is_some (first_text s) && not (ends_with_tag s) && (not (begins_with_tag s) || list_any (λ b. b == 93) s)

abbrev pub begins_with_number : List ℕ → Bool
begins_with_number s =
    if begins_with_tag s then is_found (number_behind_bracket Blank s) else is_found (number_at_front Blank s)

-- What is seen of the text outside tag pairs and comments: whether it has a tag, text beside it,
-- and a move number or a termination marker at its place.
abbrev pub outside_text : List ℕ → OutsideText
outside_text s =
    record {
      has_tag = begins_with_tag s || ends_with_tag s;
      has_text = has_text s;
      is_movetext = begins_with_number s || ends_with_marker (last_word [] true s);
    }
