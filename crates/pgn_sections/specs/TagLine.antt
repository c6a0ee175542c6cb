-- **Definition**: a line that begins a tag section, and tag pairs at the front of a line.
use Rattle.std.specs.Prelude.{ℕ, ◌+◌, ◌-◌, Bool, true, false, ◌||◌, ◌&&◌, nat_le, List, [], ◌∷◌, suc, zero, drop, take, length, Option, None, Some, is_some, option_map, bytes_eq, ◌==◌, if◌then◌else◌, codes}
use Rattle.std.specs.Option.{option_and_then}
use Rattle.std.specs.List.{prefix_len}
use Rattle.pgn_lexer.specs.Bytes.{is_line_end}
use Rattle.pgn_lexer.specs.Lexes.{is_escaped}
use Rattle.pgn_lexer.specs.TokensOf.{has_mark}
use Rattle.pgn_sections.specs.Bytes.{is_stray, name_length, begins_with, behind_byte, behind_space, behind_name}
use Rattle.pgn_sections.specs.declared.tag_line.MarkProgress.{MarkProgress}
use Rattle.pgn_sections.specs.declared.tag_line.MarkProgress.TheVariants.{Outside, BehindFirst, BehindSecond}
use Rattle.pgn_sections.specs.declared.tag_line.TagLine.{TagLine}

-- Where a byte stands to byte order marks (239 187 191), if it is stray or of a mark. The state
-- before it says how many bytes of a mark are read.
abbrev pub mark_after : MarkProgress → ℕ → Option MarkProgress
mark_after Outside b = if is_stray b then Some Outside else if b == 239 then Some BehindFirst else None
mark_after BehindFirst b = if b == 187 then Some BehindSecond else None
mark_after BehindSecond b = if b == 191 then Some Outside else None

-- one byte more, if there is such a number
abbrev pub one_more : Option ℕ → Option ℕ
one_more o = option_map (λ n. n + 1) o

-- a bracket is the first byte that is neither stray nor of a mark
abbrev pub is_at_bracket : MarkProgress → ℕ → Bool
is_at_bracket Outside b = b == 91
is_at_bracket BehindFirst b = false
is_at_bracket BehindSecond b = false

-- how many bytes are before a bracket that only stray bytes and byte order marks are before
abbrev pub bytes_before_bracket : MarkProgress → List ℕ → Option ℕ
bytes_before_bracket m [] = None
bytes_before_bracket m (b ∷ s) =
    elim (mark_after m b) [
      | None ↦ if is_at_bracket m b then Some 0 else None
      | Some n ↦ one_more (bytes_before_bracket n s)
    ]

-- a byte order mark just before the bracket is of the tag
abbrev pub tag_begin : ℕ → List ℕ → ℕ
tag_begin n line = if nat_le 3 n && has_mark (drop (n - 3) line) then n - 3 else n

-- a name and the quote behind it
abbrev pub has_quoted_value : List ℕ → Bool
has_quoted_value s =
    is_some (option_and_then (λ rest. behind_byte 34 (behind_space rest)) (behind_name s))

-- the same, and the name is Event
abbrev pub is_event : List ℕ → Bool
is_event s = has_quoted_value s && bytes_eq (take (name_length s) s) (codes "Event")

-- What is behind the bracket. A percent sign there is that of a word such as [%clk in a comment.
abbrev pub tag_line_behind : ℕ → List ℕ → Option TagLine
tag_line_behind n s =
    if begins_with 37 s then None else Some (record { at = n; is_quoted = has_quoted_value s; is_event = is_event s })

-- A line that begins a tag section: where its tag begins, whether it has a name and the quote of
-- its value, and whether the name is Event.
abbrev pub tag_line : List ℕ → Option TagLine
tag_line line =
    option_and_then (λ n. tag_line_behind (tag_begin n line) (behind_space (drop (n + 1) line))) (bytes_before_bracket Outside line)

-- The text behind the quote that ends a value, if one does on the line. The Bool says whether a
-- backslash (92) is just before. It escapes a quote (34) and another backslash alone.
abbrev pub behind_value : Bool → List ℕ → Option (List ℕ)
behind_value escaping [] = None
behind_value true (b ∷ s) =
    if is_escaped b then behind_value false s else if is_line_end b then None else behind_value false s
behind_value false (b ∷ s) =
    if b == 34 then Some s else if is_line_end b then None else behind_value (b == 92) s

-- the parts of a tag pair from its end to its front: the bracket, the value, the quote, the name
abbrev pub behind_right_bracket : List ℕ → Option (List ℕ)
behind_right_bracket s = option_map (λ rest. behind_space rest) (behind_byte 93 (behind_space s))

abbrev pub behind_quote : List ℕ → Option (List ℕ)
behind_quote s = option_and_then (λ rest. behind_right_bracket rest) (behind_value false s)

abbrev pub behind_tag_name : List ℕ → Option (List ℕ)
behind_tag_name s = option_and_then (λ rest. behind_quote rest) (behind_byte 34 (behind_space s))

abbrev pub behind_left_bracket : List ℕ → Option (List ℕ)
behind_left_bracket s = option_and_then (λ rest. behind_tag_name rest) (behind_name (behind_space s))

-- the text behind a whole tag pair and white space, if it begins with one
abbrev pub behind_pair : List ℕ → Option (List ℕ)
behind_pair s = option_and_then (λ rest. behind_left_bracket rest) (behind_byte 91 s)

-- the text behind so many tag pairs, or as many as it begins with
abbrev pub behind_some_pairs : ℕ → List ℕ → List ℕ
behind_some_pairs zero s = s
behind_some_pairs (suc n) s = elim (behind_pair s) [ None ↦ s | Some rest ↦ behind_some_pairs n rest ]

-- the text behind the tag pairs that it begins with: it has fewer than bytes
abbrev pub behind_pairs : List ℕ → List ℕ
behind_pairs s = behind_some_pairs (length s) s

-- white space, control bytes, and those of byte order marks
abbrev pub is_stray_or_mark : ℕ → Bool
is_stray_or_mark b = is_stray b || (b == 239) || (b == 187) || (b == 191)

-- the line behind what is stray at its front
abbrev pub behind_stray : List ℕ → List ℕ
behind_stray s = drop (prefix_len is_stray_or_mark s) s
