-- **Bookkeeping**: how the code reads the tag pairs at the front of a line, byte by byte.
use Rattle.std.specs.Prelude.{ℕ, Bool, true, false, ◌||◌, ◌==◌, if◌then◌else◌}
use Rattle.pgn_lexer.specs.Bytes.{is_line_end, is_space}
use Rattle.pgn_lexer.specs.Lexes.{is_escaped}
use Rattle.pgn_sections.specs.Bytes.{is_name_byte}
use Rattle.pgn_sections.specs.TagLine.{is_stray_or_mark}
use Rattle.pgn_sections.specs.Text.{nothing_read, text_with}
use Rattle.pgn_sections.specs.declared.pair.PairProgress.{PairProgress}
use Rattle.pgn_sections.specs.declared.pair.PairProgress.TheVariants.{Stray, BehindLeft, InName, BehindName, InValue, BehindBackslash, BehindValue, Whole, Missing}
use Rattle.pgn_sections.specs.declared.pair.FrontOfLine.{FrontOfLine}

-- at the first byte of a tag pair, or of what is none
abbrev pub at_pair : ℕ → PairProgress
at_pair b = if b == 91 then BehindLeft else Missing

abbrev pub behind_name : ℕ → PairProgress
behind_name b = if is_space b then BehindName else if b == 34 then InValue else Missing

abbrev pub in_value : ℕ → PairProgress
in_value b = if b == 34 then BehindValue else if is_line_end b then Missing else if b == 92 then BehindBackslash else InValue

abbrev pub pair_after : PairProgress → ℕ → PairProgress
pair_after Stray b = if is_stray_or_mark b then Stray else at_pair b
pair_after BehindLeft b = if is_space b then BehindLeft else if is_name_byte b then InName else Missing
pair_after InName b = if is_name_byte b then InName else behind_name b
pair_after BehindName b = behind_name b
pair_after InValue b = in_value b
pair_after BehindBackslash b = if is_escaped b then InValue else if is_line_end b then Missing else InValue
pair_after BehindValue b = if is_space b then BehindValue else if b == 93 then Whole else Missing
pair_after Whole b = if is_space b then Whole else at_pair b
pair_after Missing b = Missing

abbrev pub is_whole : PairProgress → Bool
is_whole Stray = false
is_whole BehindLeft = false
is_whole InName = false
is_whole BehindName = false
is_whole InValue = false
is_whole BehindBackslash = false
is_whole BehindValue = false
is_whole Whole = true
is_whole Missing = false

-- between tag pairs, where the text begins anew
abbrev pub is_between : PairProgress → Bool
is_between Stray = true
is_between BehindLeft = false
is_between InName = false
is_between BehindName = false
is_between InValue = false
is_between BehindBackslash = false
is_between BehindValue = false
is_between Whole = true
is_between Missing = false

-- with the byte at this place of the text
abbrev pub front_at : PairProgress → FrontOfLine → ℕ → ℕ → FrontOfLine
front_at pair f place b =
    record {
      pair = pair;
      has_pair = f.has_pair || is_whole pair;
      text = if is_between pair then nothing_read else text_with f.text place b;
    }

abbrev pub front_with : FrontOfLine → ℕ → ℕ → FrontOfLine
front_with f place b = front_at (pair_after f.pair b) f place b
