-- **Definition**: what a run does that reads its file twice, and the status that it ends with.
-- Letters: s is the text of the first source, r that of the second, f a fault, t are totals.
-- `first` and `second` are the sources, `out` is standard output, and `err` standard error, before
-- the run and after it.
use Rattle.std.specs.Prelude.{◌≡◌, ℕ, ◌⊎◌, Bool, true, false, List, Option, Some, Result, Ok, Err}
use Rattle.std.specs.Io.KnownBytes.{Appends}
use Rattle.pgn_layout.specs.Device.{Device, IsStill}
use Rattle.pgn_game.specs.declared.mode.Mode.{Mode}
use Rattle.pgn_game.specs.declared.mode.Mode.TheVariants.{Full}
use Rattle.pgn_game.specs.declared.reason.Reason.{Reason}
use Rattle.pgn_game.specs.declared.reason.Reason.TheVariants.{ReadFault, WriteFault}
use Rattle.pgn_game.specs.declared.reason.Fault.{Fault}
use Rattle.pgn_game.specs.declared.conversion.Totals.{Totals}
use Rattle.pgn_game.specs.games.Profile.{Profile}
use Rattle.pgn_game.specs.games.Reason.{line_of}
use Rattle.pgn_game.specs.games.Progress.{output, verdict}
use Rattle.pgn_game.specs.public.Checked.{checked_output, checked_profile, checked_verdict}
use Rattle.pgn_game.specs.public.CheckedConversion.{TwoReadingsConvert, TwoReadingsCount}
use Rattle.pgn_arguments.specs.declared.arguments.Task.{Task}
use Rattle.pgn_arguments.specs.declared.arguments.Task.TheVariants.{Checked}
use Rattle.pgn_tool.specs.TaskRun.{Concludes, FlushesLast, HasFailed, HasFront, Tells, TellsVerdict, line, mode_for, status_of}

-- ---- what is asked for

-- the task reads its file twice
abbrev pub is_checked : Task → Bool
is_checked (Checked reduced file) = true
is_checked _ = false

-- the mode of such a task; for another one it has no meaning
abbrev pub checked_mode : Task → Mode
checked_mode (Checked reduced file) = mode_for reduced
checked_mode _ = Full

-- the profile of both readings: 64 tag pairs of a game, variations to depth 32, and a missing
-- Result takes the marker
abbrev pub profile_twice : Mode → Profile
profile_twice mode = checked_profile 64 32 mode

-- ---- if no device fails

-- The run of two texts: its status, what standard output has taken, and what is reported on
-- standard error.
pub record AnswersTwice (mode : Mode) (s r : List ℕ) (out err : Device) (status : ℕ) : Type 0 where
  pub ends : status ≡ status_of (checked_verdict (profile_twice mode) s r)
  pub written : Appends out.before out.after (checked_output (profile_twice mode) s r)
  pub told : TellsVerdict err (checked_verdict (profile_twice mode) s r)

-- The same if both sources give the text s: the verdict and the output are those of one reading.
pub record AnswersSame (mode : Mode) (s : List ℕ) (out err : Device) (status : ℕ) : Type 0 where
  pub ends : status ≡ status_of (verdict (profile_twice mode) s)
  pub written : Appends out.before out.after (output (profile_twice mode) s)
  pub told : TellsVerdict err (verdict (profile_twice mode) s)

-- ---- whatever the devices do

-- if the reason is `ReadFault`, one of the sources has failed; if it is `WriteFault`, standard
-- output has
abbrev pub BlamesTwice : Reason → (first second out : Device) → Type 0
BlamesTwice ReadFault first second out = HasFailed first ⊎ HasFailed second
BlamesTwice WriteFault first second out = HasFailed out
BlamesTwice _ first second out = Unit {0}

-- there was a fault, which is reported: the status is 1
pub record RefusesTwice (f : Fault) (first second out err : Device) (status : ℕ) : Type 0 where
  pub ends : status ≡ 1
  pub told : Tells err (line (line_of f))
  pub blames : BlamesTwice f.reason first second out

-- how a run ends by the result of its conversion
abbrev pub EndsTwice : Result Totals Fault → (first second out err : Device) → ℕ → Type 0
EndsTwice (Ok t) first second out err status = Concludes first out err status × IsStill second
EndsTwice (Err f) first second out err status = RefusesTwice f first second out err status

-- The devices count the failures that the conversion reports. After it the flush may add one.
pub record CountsBothReadings (answer : Result Totals Fault) (first second out : Device) (unflushed : Option (List ℕ)) : Type 0 where
  pub converted : Device
  pub failures : converted.failures ≡ out.failures
  pub conversion : TwoReadingsCount first second converted answer
  pub flush : FlushesLast converted.failures_after out.failures_after unflushed

-- A run that reads two sources: a conversion with its result, what the devices count, and how the
-- run ends. `unflushed` are the bytes of `out` that are not flushed after it, if it reports them.
pub record RunsTwice (mode : Mode) (first second out : Device) (unflushed : Option (List ℕ)) (err : Device) (status : ℕ) : Type 0 where
  pub answer : Result Totals Fault
  pub works : TwoReadingsConvert (profile_twice mode) first second out answer
  pub counted : CountsBothReadings answer first second out unflushed
  pub ends : EndsTwice answer first second out err status

-- the source has the text s to give, even if a read fails
abbrev pub Gives : List ℕ → Device → Type 0
Gives s source = source.before ≡ Some s

-- a prefix of the output of one reading of the text s is written, and nothing else
abbrev pub WritesFront : Mode → List ℕ → Device → Type 0
WritesFront mode s out = HasFront out (output (profile_twice mode) s)
