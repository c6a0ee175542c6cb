-- **Bookkeeping**: what the code keeps of a line of a bad game, byte by byte.
use Rattle.std.specs.Prelude.{ℕ, ◌+◌, ◌-◌, Bool, true, false, not, ◌||◌, ◌&&◌, nat_le, nat_lt, List, [], ◌∷◌, Option, None, Some, is_some, ◌==◌, if◌then◌else◌}
use Rattle.std.specs.Option.{option_and_then}
use Rattle.pgn_lexer.specs.Bytes.{is_space}
use Rattle.pgn_sections.specs.BadGame.{before_escapes, end_in_comment, first_escape, place_above, with_text}
use Rattle.pgn_sections.specs.Outside.{is_byte}
use Rattle.pgn_sections.specs.PairProgress.{front_with}
use Rattle.pgn_sections.specs.TagProgress.{no_tag_read, tag_found, tag_with}
use Rattle.pgn_sections.specs.Text.{comment_of, nothing_read, outside_of, text_from}
use Rattle.pgn_sections.specs.declared.bad_game.BadGame.{BadGame}
use Rattle.pgn_sections.specs.declared.bad_game.Ends.{Ends}
use Rattle.pgn_sections.specs.declared.bad_game.Ends.TheVariants.{Anywhere, InComments, Nowhere}
use Rattle.pgn_sections.specs.declared.line.Line.{Line}
use Rattle.pgn_sections.specs.declared.line.MarkSearch.{MarkSearch}
use Rattle.pgn_sections.specs.declared.line.MarkSearch.TheVariants.{Begin, BehindFirst, BehindSecond, Whole, Missing}
use Rattle.pgn_sections.specs.declared.outside.Comment.TheVariants.{Braces}
use Rattle.pgn_sections.specs.declared.pair.FrontOfLine.{FrontOfLine}
use Rattle.pgn_sections.specs.declared.pair.PairProgress.TheVariants.{Stray}
use Rattle.pgn_sections.specs.declared.pair.PairProgress as pair
use Rattle.pgn_sections.specs.declared.tag_line.TagLine.{TagLine}

-- a byte order mark that begins at a place, of which these bytes are read
abbrev pub mark_with : MarkSearch → ℕ → MarkSearch
mark_with Begin b = if b == 239 then BehindFirst else Missing
mark_with BehindFirst b = if b == 187 then BehindSecond else Missing
mark_with BehindSecond b = if b == 191 then Whole else Missing
mark_with Whole b = Whole
mark_with Missing b = Missing

abbrev pub is_whole_mark : MarkSearch → Bool
is_whole_mark Begin = false
is_whole_mark BehindFirst = false
is_whole_mark BehindSecond = false
is_whole_mark Whole = true
is_whole_mark Missing = false

-- The front of a line: outside comments there may be tag pairs, and in a comment are none.
abbrev pub front_in : Option ℕ → FrontOfLine
front_in None = record { pair = Stray; has_pair = false; text = nothing_read }
front_in (Some place) = record { pair = pair.TheVariants.Missing; has_pair = false; text = text_from Braces (Some place) }

-- where the game ends if the line does not begin with the tag that ends it
abbrev pub end_before : BadGame → ℕ
end_before g = before_escapes g.fault g.escapes_at g.at

-- the line at a place, before its first byte
abbrev pub line_at : ℕ → ℕ → Option ℕ → Line
line_at place mark_at comment_at =
    record {
      at = place;
      length = 0;
      first = None;
      last = None;
      tag = no_tag_read;
      mark_at = mark_at;
      mark = Begin;
      front = front_in comment_at;
    }

-- the next line of a game
abbrev pub line_begun : BadGame → Line
line_begun g = line_at g.at (end_before g - g.at) g.comment_at

abbrev pub line_with : Line → ℕ → Line
line_with l b =
    record {
      at = l.at;
      length = l.length + 1;
      first = if is_some l.first then l.first else Some b;
      last = if is_space b then l.last else Some b;
      tag = tag_with l.tag l.length b;
      mark_at = l.mark_at;
      mark = if nat_lt l.length l.mark_at then l.mark else mark_with l.mark b;
      front = front_with l.front (l.at + l.length) b;
    }

-- with the bytes of a text
abbrev pub line_over : Line → List ℕ → Line
line_over l [] = l
line_over l (b ∷ s) = line_over (line_with l b) s

-- whether a byte order mark of the line begins at the end of the game
abbrev pub has_mark_at : Line → ℕ → Bool
has_mark_at l n = nat_le (n + 3) l.length && (if n == l.mark_at then is_whole_mark l.mark else l.tag.is_marked)

-- the definitions of BadGame, of what is kept of the line

abbrev pub end_outside : BadGame → Bool → Option TagLine → Option ℕ
end_outside g is_rest None = if g.has_movetext && g.is_behind_empty_line && is_rest then Some (end_before g) else None
end_outside g is_rest (Some tag) =
    if g.has_movetext || (g.has_tags && g.is_behind_empty_line && tag.is_event)
    then Some (before_escapes g.fault g.escapes_at (g.at + tag.at))
    else if not g.has_tags && nat_le g.fault (g.at + tag.at) then Some (g.at + tag.at)
    else None

abbrev pub end_by : Ends → BadGame → Line → Option ℕ
end_by Anywhere g l =
    if is_some g.comment_at then end_in_comment g (tag_found l.tag) else end_outside g (is_byte 93 l.last) (tag_found l.tag)
end_by InComments g l = if is_some g.comment_at then end_in_comment g (tag_found l.tag) else None
end_by Nowhere g l = None

abbrev pub end_at : BadGame → Line → Option ℕ
end_at g l = end_by g.ends g l

abbrev pub behind_mark : BadGame → Line → ℕ → ℕ
behind_mark g l end = if nat_le g.at end && has_mark_at l (end - g.at) then end + 3 else end

abbrev pub place_on : BadGame → Line → Option ℕ
place_on g l = option_and_then (λ end. place_above g.begin (behind_mark g l end)) (end_at g l)

abbrev pub with_line : BadGame → Line → BadGame
with_line g l =
    if not (is_some l.last) then record g { is_behind_empty_line = true }
    else if not (is_some g.comment_at) && is_byte 37 l.first then record g { escapes_at = Some (first_escape g.escapes_at g.at) }
    else with_text g l.front.has_pair (comment_of l.front.text) (outside_of l.front.text)

abbrev pub behind_line : BadGame → Line → BadGame
behind_line g l = record (with_line g l) { at = g.at + l.length }
