-- **Definition**: the result of a conversion, as C gets it.
-- Letters: t are totals, f is a fault. `before` and `after` are the bytes of the buffer before a
-- call and after it.
use Rattle.std.specs.Prelude.{◌≡◌, ◌≢◌, ℕ, ◌+◌, ◌-◌, ◌^◌, ◌≤◌, ◌==◌, if◌then◌else◌, List, [], ◌++◌, length, drop, replicate, decimal, false, Option, Some, None, Result, Ok, Err}
use Rattle.pgn_game.specs.declared.mode.Mode.{Mode}
use Rattle.pgn_game.specs.declared.mode.Mode.TheVariants.{Full, Reduced}
use Rattle.pgn_game.specs.declared.reason.Reason.{Reason}
use Rattle.pgn_game.specs.declared.reason.Reason.TheVariants.{WriteFault}
use Rattle.pgn_game.specs.declared.reason.Fault.{Fault}
use Rattle.pgn_game.specs.declared.conversion.Totals.{Totals}
use Rattle.pgn_game.specs.games.Profile.{Profile}
use Rattle.pgn_game.specs.games.Reason.{number_of, line_of}
use Rattle.pgn_game.specs.games.Progress.{output}
use Rattle.pgn_game.specs.public.ConverterCalls.{profile_of}
use Rattle.pgn_game.specs.public.Conversion.{AfterSlice, ChecksSlice}
use Rattle.pgn_game.specs.laws.Laws.{IsPrefix}
use Rattle.pgn_c.specs.declared.pgn_result.PgnResult.{PgnResult}

-- The text, and zeros after it up to so many bytes.
abbrev pub padded : ℕ → List ℕ → List ℕ
padded size text = text ++ replicate (size - length text) 0

-- the status of a fault: 2 if the buffer is full, and else 1
abbrev pub status_of : Reason → ℕ
status_of WriteFault = 2
status_of _ = 1

-- The result of a conversion that wrote so many bytes. The message of a fault is its line, in which
-- the reason comes after `byte N: `.
abbrev pub result_of : Result Totals Fault → ℕ → PgnResult
result_of (Ok t) written =
    record { status = 0; fault = 0; place = 0; written = written; games = t.games; plies = t.plies; reason_at = 0; message = padded 104 [] }
result_of (Err f) written =
    record { status = status_of f.reason; fault = number_of f.reason; place = f.at; written = written; games = 0; plies = 0; reason_at = 7 + length (decimal f.at); message = padded 104 (line_of f) }

-- the profile of a call: at most 64 tag pairs of a game, variations to depth 32, and a missing
-- Result counts as `*`
abbrev pub profile_in : Mode → Profile
profile_in mode = profile_of 64 32 mode

-- The text was checked: the result is that of a reading that writes nothing. So it never says that
-- a buffer is full. If the status is 0, the text has at most 2^62 bytes.
pub record Checks (text : List ℕ) (result : PgnResult) : Type 0 where
  pub outcome : Result Totals Fault
  pub checks : ChecksSlice (profile_in Full) text outcome
  pub not_full : result.status ≢ 2
  pub short : result.status ≡ 0 → length text ≤ 2 ^ 62
  pub is_result : result ≡ result_of outcome 0

-- The buffer begins with what was written, and its other bytes are as they were.
pub record IsFilled (before after written : List ℕ) : Type 0 where
  pub fits : length written ≤ length before
  pub now : after ≡ written ++ drop (length written) before

-- The text was converted into the buffer. What is written is a prefix of the export text. It ends
-- at the first fault, or where the buffer is full: then all of the buffer is written. If the status
-- is 0, the text has at most 2^62 bytes.
pub record Converts (mode : Mode) (text before after : List ℕ) (result : PgnResult) : Type 0 where
  pub outcome : Result Totals Fault
  pub written : List ℕ
  pub converts : AfterSlice false (profile_in mode) text outcome (Some []) (Some written)
  pub front : IsPrefix written (output (profile_in mode) text)
  pub filled : IsFilled before after written
  pub full : result.status ≡ 2 → length written ≡ length before
  pub short : result.status ≡ 0 → length text ≤ 2 ^ 62
  pub is_result : result ≡ result_of outcome (length written)

-- the mode with this number: 0 is the full format, 1 the reduced one
abbrev pub mode_of : ℕ → Option Mode
mode_of number = if number == 0 then Some Full else (if number == 1 then Some Reduced else None)

-- the result if there is no such mode
abbrev pub no_mode : PgnResult
no_mode =
    record { status = 3; fault = 0; place = 0; written = 0; games = 0; plies = 0; reason_at = 0; message = padded 104 [] }

-- The text is converted in the mode. If there is no such mode, the buffer stays as it is.
abbrev pub ConvertsIn : Option Mode → List ℕ → List ℕ → List ℕ → PgnResult → Type 0
ConvertsIn (Some mode) text before after result = Converts mode text before after result
ConvertsIn None text before after result = (after ≡ before) × (result ≡ no_mode)
