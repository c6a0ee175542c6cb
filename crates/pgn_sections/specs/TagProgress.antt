-- **Bookkeeping**: how the code finds the tag that a line begins with, byte by byte.
use Rattle.std.specs.Prelude.{ℕ, ◌-◌, Bool, true, false, ◌&&◌, Option, None, Some, ◌==◌, if◌then◌else◌}
use Rattle.pgn_lexer.specs.Bytes.{is_space}
use Rattle.pgn_sections.specs.Bytes.{is_name_byte}
use Rattle.pgn_sections.specs.TagLine.{is_at_bracket, mark_after}
use Rattle.pgn_sections.specs.declared.tag_line.EventName.{EventName}
use Rattle.pgn_sections.specs.declared.tag_line.EventName.TheVariants.{Empty, E, Ev, Eve, Even, Event, Other}
use Rattle.pgn_sections.specs.declared.tag_line.MarkProgress.{MarkProgress}
use Rattle.pgn_sections.specs.declared.tag_line.MarkProgress.TheVariants.{Outside, BehindFirst, BehindSecond}
use Rattle.pgn_sections.specs.declared.tag_line.TagLine.{TagLine}
use Rattle.pgn_sections.specs.declared.tag_line.TagProgress.{TagProgress}
use Rattle.pgn_sections.specs.declared.tag_line.TagProgress.TheVariants.{Front, BehindBracket, InName, BehindName, Quoted, Unquoted, Missing}
use Rattle.pgn_sections.specs.declared.tag_line.TagSearch.{TagSearch}

-- the name with one byte more
abbrev pub name_with : EventName → ℕ → EventName
name_with Empty b = if b == 69 then E else Other
name_with E b = if b == 118 then Ev else Other
name_with Ev b = if b == 101 then Eve else Other
name_with Eve b = if b == 110 then Even else Other
name_with Even b = if b == 116 then Event else Other
name_with Event b = Other
name_with Other b = Other

abbrev pub is_event_name : EventName → Bool
is_event_name Empty = false
is_event_name E = false
is_event_name Ev = false
is_event_name Eve = false
is_event_name Even = false
is_event_name Event = true
is_event_name Other = false

-- behind white space, or the bytes of marks
abbrev pub at_front : MarkProgress → ℕ → Option MarkProgress → TagProgress
at_front m b None = if is_at_bracket m b then BehindBracket else Missing
at_front m b (Some n) = Front n

-- behind a name
abbrev pub behind_name : EventName → ℕ → TagProgress
behind_name e b = if is_space b then BehindName e else if b == 34 then Quoted e else Unquoted

abbrev pub tag_after : TagProgress → ℕ → TagProgress
tag_after (Front m) b = at_front m b (mark_after m b)
tag_after BehindBracket b =
    if is_space b then BehindBracket
    else if b == 37 then Missing
    else if is_name_byte b then InName (name_with Empty b)
    else Unquoted
tag_after (InName e) b = if is_name_byte b then InName (name_with e b) else behind_name e b
tag_after (BehindName e) b = behind_name e b
tag_after (Quoted e) b = Quoted e
tag_after Unquoted b = Unquoted
tag_after Missing b = Missing

abbrev pub is_front : TagProgress → Bool
is_front (Front m) = true
is_front BehindBracket = false
is_front (InName e) = false
is_front (BehindName e) = false
is_front (Quoted e) = false
is_front Unquoted = false
is_front Missing = false

-- whether a byte order mark is just before the next byte, or before this bracket
abbrev pub is_marked_after : MarkProgress → Bool → ℕ → Bool
is_marked_after Outside is_marked b = is_marked && (b == 91)
is_marked_after BehindFirst is_marked b = false
is_marked_after BehindSecond is_marked b = b == 191

-- with the byte at this place of the line
abbrev pub tag_with_at : TagProgress → TagSearch → ℕ → ℕ → TagSearch
tag_with_at (Front m) t n b =
    record { progress = tag_after (Front m) b; at = n; is_marked = is_marked_after m t.is_marked b }
tag_with_at BehindBracket t n b = record t { progress = tag_after BehindBracket b }
tag_with_at (InName e) t n b = record t { progress = tag_after (InName e) b }
tag_with_at (BehindName e) t n b = record t { progress = tag_after (BehindName e) b }
tag_with_at (Quoted e) t n b = record t { progress = tag_after (Quoted e) b }
tag_with_at Unquoted t n b = record t { progress = tag_after Unquoted b }
tag_with_at Missing t n b = record t { progress = tag_after Missing b }

abbrev pub tag_with : TagSearch → ℕ → ℕ → TagSearch
tag_with t n b = tag_with_at t.progress t n b

-- the mark before the bracket is of the tag
abbrev pub begin_of_tag : TagSearch → ℕ
begin_of_tag t = if t.is_marked then t.at - 3 else t.at

abbrev pub no_tag_read : TagSearch
no_tag_read = record { progress = Front Outside; at = 0; is_marked = false }

-- the tag that was found, if the line ends here
abbrev pub tag_of : TagProgress → ℕ → Option TagLine
tag_of (Front m) n = None
tag_of BehindBracket n = Some (record { at = n; is_quoted = false; is_event = false })
tag_of (InName e) n = Some (record { at = n; is_quoted = false; is_event = false })
tag_of (BehindName e) n = Some (record { at = n; is_quoted = false; is_event = false })
tag_of (Quoted e) n = Some (record { at = n; is_quoted = true; is_event = is_event_name e })
tag_of Unquoted n = Some (record { at = n; is_quoted = false; is_event = false })
tag_of Missing n = None

abbrev pub tag_found : TagSearch → Option TagLine
tag_found t = tag_of t.progress (begin_of_tag t)
