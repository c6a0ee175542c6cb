-- **Definition**: where reading goes on behind a bad game, line by line.
use Rattle.std.specs.Prelude.{ℕ, ◌+◌, ◌-◌, Bool, true, false, not, ◌||◌, ◌&&◌, nat_le, nat_lt, List, drop, length, Option, None, Some, is_some, if◌then◌else◌}
use Rattle.std.specs.List.{list_all}
use Rattle.std.specs.Option.{option_and_then}
use Rattle.pgn_lexer.specs.Bytes.{is_space}
use Rattle.pgn_lexer.specs.TokensOf.{has_mark}
use Rattle.pgn_sections.specs.Bytes.{begins_with}
use Rattle.pgn_sections.specs.TagLine.{tag_line, behind_pair, behind_pairs, behind_stray}
use Rattle.pgn_sections.specs.Outside.{without_comments, open_comment, outside_text, ends_with_tag}
use Rattle.pgn_sections.specs.declared.bad_game.BadGame.{BadGame}
use Rattle.pgn_sections.specs.declared.bad_game.Ends.{Ends}
use Rattle.pgn_sections.specs.declared.bad_game.Ends.TheVariants.{Anywhere, InComments, Nowhere}
use Rattle.pgn_sections.specs.declared.tag_line.TagLine.{TagLine}
use Rattle.pgn_sections.specs.declared.outside.Comment.TheVariants.{Closed, Braces}
use Rattle.pgn_sections.specs.declared.outside.OutsideText.{OutsideText}

-- What was seen of a bad game before its first line. The game before ends at a place, and the
-- fault is at another.
abbrev pub unread : ℕ → ℕ → BadGame
unread begin fault =
    record {
      begin = begin;
      fault = fault;
      at = begin;
      ends = Anywhere;
      has_tags = false;
      has_movetext = false;
      is_behind_empty_line = true;
      comment_at = None;
      escapes_at = None;
    }

-- Where the game ends, if a line shows it. That is on the line, or at escape lines before it.

-- Escape lines just before the next game belong to it, if they are behind the fault.
abbrev pub before_escapes : ℕ → Option ℕ → ℕ → ℕ
before_escapes fault None place = place
before_escapes fault (Some escapes) place = if nat_le escapes fault then place else escapes

-- In a comment: before a tag with a quoted value, after movetext or an empty line. The comment was
-- probably never closed.
abbrev pub end_in_comment : BadGame → Option TagLine → Option ℕ
end_in_comment g None = None
end_in_comment g (Some tag) =
    if tag.is_quoted && (g.has_movetext || g.is_behind_empty_line) then Some (g.at + tag.at) else None

-- Outside comments: before a line that begins with a tag, after movetext. Without movetext, before
-- an Event tag behind other tags and an empty line. Without tags, behind the fault: then stray
-- bytes alone are bad. And before the rest of a tag pair, after movetext and an empty line.
abbrev pub end_outside : BadGame → List ℕ → Option TagLine → Option ℕ
end_outside g line None =
    if g.has_movetext && g.is_behind_empty_line && ends_with_tag line then Some (before_escapes g.fault g.escapes_at g.at)
    else None
end_outside g line (Some tag) =
    if g.has_movetext || (g.has_tags && g.is_behind_empty_line && tag.is_event)
    then Some (before_escapes g.fault g.escapes_at (g.at + tag.at))
    else if not g.has_tags && nat_le g.fault (g.at + tag.at) then Some (g.at + tag.at)
    else None

-- A reader of a sound game asks for ends in comments alone: a game that a comment hides. A reader
-- can also ask for none, but for the comment that is open.
abbrev pub end_by : Ends → BadGame → List ℕ → Option ℕ
end_by Anywhere g line = if is_some g.comment_at then end_in_comment g (tag_line line) else end_outside g line (tag_line line)
end_by InComments g line = if is_some g.comment_at then end_in_comment g (tag_line line) else None
end_by Nowhere g line = None

abbrev pub end_at : BadGame → List ℕ → Option ℕ
end_at g line = end_by g.ends g line

-- Reading goes on at that end, or behind a byte order mark that stands there.
abbrev pub behind_mark : BadGame → List ℕ → ℕ → ℕ
behind_mark g line end = if nat_le g.at end && has_mark (drop (end - g.at) line) then end + 3 else end

-- At its first place a bad game cannot end: reading would find it again.
abbrev pub place_above : ℕ → ℕ → Option ℕ
place_above begin place = if nat_lt begin place then Some place else None

-- where reading goes on, if a line shows it
abbrev pub place_on : BadGame → List ℕ → Option ℕ
place_on g line = option_and_then (λ end. place_above g.begin (behind_mark g line end)) (end_at g line)

-- What was seen of the game behind one more line.

-- Text is movetext behind an empty line, with a move number at its front, or with a termination
-- marker at its end.
abbrev pub with_text : BadGame → Bool → Option ℕ → OutsideText → BadGame
with_text g has_pair comment_at text =
    record g {
      has_tags = g.has_tags || has_pair || text.has_tag;
      has_movetext = g.has_movetext || (text.has_text && (g.is_behind_empty_line || text.is_movetext));
      is_behind_empty_line = false;
      comment_at = comment_at;
      escapes_at = None;
    }

-- what is behind the tag pairs that a line begins with
abbrev pub behind_tags : List ℕ → List ℕ
behind_tags line = behind_pairs (behind_stray line)

-- The text outside comments: of the whole line, if a comment is open from a line before, else of
-- what is behind tag pairs.
abbrev pub with_text_line : BadGame → List ℕ → BadGame
with_text_line g line =
    if is_some g.comment_at
    then with_text g false (open_comment Braces g.comment_at g.at line) (outside_text (without_comments Braces line))
    else with_text g (is_some (behind_pair (behind_stray line)))
    (open_comment Closed None (g.at + (length line - length (behind_tags line))) (behind_tags line))
    (outside_text (without_comments Closed (behind_tags line)))

-- the first of the escape lines
abbrev pub first_escape : Option ℕ → ℕ → ℕ
first_escape None place = place
first_escape (Some escapes) place = escapes

-- An empty line, an escape line, which begins with a percent sign (37), or a line with text.
abbrev pub with_line : BadGame → List ℕ → BadGame
with_line g line =
    if list_all is_space line then record g { is_behind_empty_line = true }
    else if not (is_some g.comment_at) && begins_with 37 line then record g { escapes_at = Some (first_escape g.escapes_at g.at) }
    else with_text_line g line

abbrev pub behind_line : BadGame → List ℕ → BadGame
behind_line g line = record (with_line g line) { at = g.at + length line }
