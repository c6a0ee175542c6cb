-- **Definition**: what a run of a task does to its devices, and the status that it ends with.
-- Letters: s is a text, f a fault, t are totals, c are the numbers of games and plies, d is a
-- device. `source`, `out` and `err` are the devices that are read and written, before the run and
-- after it: `out` is standard output, and `err` standard error.
use Rattle.std.specs.Prelude.{◌≡◌, ℕ, ◌-◌, ◌^◌, ◌<◌, ◌≤◌, ◌⊎◌, Bool, true, false, List, [], ◌∷◌, ◌++◌, length, take, codes, decimal, Option, Some, Result, Ok, Err}
use Rattle.std.specs.Io.KnownBytes.{Appends, Keeps}
use Rattle.pgn_layout.specs.Device.{AppendsFront, Device, IsStill, NoneUnflushed, nowhere, one_more}
use Rattle.pgn_game.specs.declared.mode.Mode.{Mode}
use Rattle.pgn_game.specs.declared.mode.Mode.TheVariants.{Full, Reduced}
use Rattle.pgn_game.specs.declared.reason.Reason.{Reason}
use Rattle.pgn_game.specs.declared.reason.Reason.TheVariants.{ReadFault, WriteFault}
use Rattle.pgn_game.specs.declared.reason.Fault.{Fault}
use Rattle.pgn_game.specs.declared.conversion.Totals.{Totals}
use Rattle.pgn_game.specs.games.Profile.{Profile}
use Rattle.pgn_game.specs.games.Reason.{line_of}
use Rattle.pgn_game.specs.games.Progress.{Verdict, refused, totals, output, verdict}
use Rattle.pgn_game.specs.public.ConverterCalls.{profile_of}
use Rattle.pgn_game.specs.public.Conversion.{Checks, Converts, CountsResult}
use Rattle.pgn_arguments.specs.declared.arguments.Task.{Task}
use Rattle.pgn_arguments.specs.declared.arguments.Task.TheVariants.{Export, Checked, Check, List as ListGames, Split}
use Rattle.pgn_tool.specs.declared.list.Stopped.{Stopped}
use Rattle.pgn_tool.specs.declared.list.Stopped.TheVariants as stopped
use Rattle.pgn_tool.specs.ListLines.{CountsList, ListResult, list_text}

-- ---- what is asked for

-- what a task does with its source: it writes the games in a mode, counts them, or writes a line
-- for each
pub data Job : Type 0 where
  exporting : Mode → Job
  checking : Job
  listing : Job

-- the mode of an export, which is reduced or not
abbrev pub mode_for : Bool → Mode
mode_for true = Reduced
mode_for false = Full

-- the task reads one source, and writes to standard output alone
abbrev pub is_for_stream : Task → Bool
is_for_stream (Checked reduced file) = false
is_for_stream (Split dir file) = false
is_for_stream _ = true

-- The job of a task that reads one source and writes to standard output alone. For another task it
-- has no meaning.
abbrev pub job_of : Task → Job
job_of (Export reduced file) = exporting (mode_for reduced)
job_of (Checked reduced file) = checking
job_of (Check file) = checking
job_of (ListGames file) = listing
job_of (Split dir file) = checking

-- the mode of a job; what is checked or listed is read in full
abbrev pub mode_of : Job → Mode
mode_of (exporting mode) = mode
mode_of checking = Full
mode_of listing = Full

-- the profile of a job: 64 tag pairs of a game, variations to depth 32, and a missing Result counts
-- as `*`
abbrev pub profile_for : Job → Profile
profile_for job = profile_of 64 32 (mode_of job)

-- ---- what is written and reported

-- the text with LF
abbrev pub line : List ℕ → List ℕ
line text = text ++ 10 ∷ []

-- `games: G, plies: P`
abbrev pub counting_line : ℕ → ℕ → List ℕ
counting_line games plies = line (codes "games: " ++ decimal games ++ codes ", plies: " ++ decimal plies)

-- the line of the counts, or nothing for a fault
abbrev pub counting_of : Verdict → List ℕ
counting_of (refused f) = []
counting_of (totals c) = counting_line c.games c.plies

-- what standard output gets for a text
abbrev pub text_for : Job → List ℕ → List ℕ
text_for (exporting mode) s = output (profile_of 64 32 mode) s
text_for checking s = counting_of (verdict (profile_of 64 32 Full) s)
text_for listing s = list_text s

-- the status is 1 for a fault, and else 0
abbrev pub status_of : Verdict → ℕ
status_of (refused f) = 1
status_of (totals c) = 0

-- ---- devices

-- a call failed: the count of failures rose, or was and is at its maximum
abbrev pub HasFailed : Device → Type 0
HasFailed d = one_more d.failures ≤ d.failures_after

-- no call failed: the count of failures stayed, and it was below its maximum
abbrev pub IsCalm : Device → Type 0
IsCalm d = IsStill d × (d.failures < 2 ^ 64 - 1)

-- the bytes of the device and its count of failures stayed
abbrev pub IsUntouched : Device → Type 0
IsUntouched d = (d.after ≡ d.before) × (d.failures_after ≡ d.failures)

-- if no call of it failed, the sink has taken this text, and no more
abbrev pub Tells : Device → List ℕ → Type 0
Tells d text = IsCalm d → Appends d.before d.after text

-- the sink has taken a prefix of this text, and no more
abbrev pub HasFront : Device → List ℕ → Type 0
HasFront d text = (count : ℕ) × Appends d.before d.after (take count text)

-- No byte that the sink took is unflushed, if it reports which are. Or a call of it failed, and the
-- status is 1.
abbrev pub IsFlushed : Device → Option (List ℕ) → ℕ → Type 0
IsFlushed d unflushed status = NoneUnflushed unflushed ⊎ (HasFailed d × (status ≡ 1))

-- ---- if no device fails

-- a fault is reported on standard error; without one nothing is
abbrev pub TellsVerdict : Device → Verdict → Type 0
TellsVerdict err (refused f) = Tells err (line (line_of f))
TellsVerdict err (totals c) = IsUntouched err

-- The run of a text s: its status, what standard output has taken, and what is reported on standard
-- error.
pub record Answers (job : Job) (s : List ℕ) (out err : Device) (status : ℕ) : Type 0 where
  pub ends : status ≡ status_of (verdict (profile_for job) s)
  pub written : Appends out.before out.after (text_for job s)
  pub told : TellsVerdict err (verdict (profile_for job) s)

-- The source gives the text s, which has at most 2^62 bytes. Neither it nor standard output fails.
pub record IsSmooth (s : List ℕ) (source out : Device) : Type 0 where
  pub gives : source.before ≡ Some s
  pub short : length s ≤ 2 ^ 62
  pub reads : IsCalm source
  pub writes : IsCalm out

-- ---- whatever the devices do

-- if the reason is `ReadFault`, the source has failed; if it is `WriteFault`, standard output has
abbrev pub Blames : Reason → Device → Device → Type 0
Blames ReadFault source out = HasFailed source
Blames WriteFault source out = HasFailed out
Blames _ source out = Unit {0}

-- there was a fault, which is reported: the status is 1
pub record Refuses (f : Fault) (source out err : Device) (status : ℕ) : Type 0 where
  pub ends : status ≡ 1
  pub told : Tells err (line (line_of f))
  pub blames : Blames f.reason source out

-- There was no fault, and no read failed. The status says whether all was written, and if not, that
-- is reported.
pub record Concludes (source out err : Device) (status : ℕ) : Type 0 where
  pub read : IsStill source
  pub ends : status ≤ 1
  pub well : status ≡ 0 → IsStill out × IsUntouched err
  pub ill : status ≡ 1 → HasFailed out × Tells err (line (codes "output cannot be written"))

-- how a run ends by the result of its conversion
abbrev pub Ends : Result Totals Fault → Device → Device → Device → ℕ → Type 0
Ends (Ok t) source out err status = Concludes source out err status
Ends (Err f) source out err status = Refuses f source out err status

-- the line of a check is written, or if a write fails a prefix of it; on a fault nothing is
abbrev pub WritesCountingLine : Result Totals Fault → Device → Type 0
WritesCountingLine (Ok t) out = Tells out (counting_line t.games t.plies) × HasFront out (counting_line t.games t.plies)
WritesCountingLine (Err f) out = Keeps out.before out.after

-- The conversion of a job. An export converts to standard output. A check reads and writes nothing,
-- and then writes its line. A list is no conversion.
abbrev pub Works : Job → Result Totals Fault → Device → Device → Type 0
Works (exporting mode) answer source out = Converts (profile_of 64 32 mode) source answer out
Works checking answer source out = Checks (profile_of 64 32 Full) source answer × WritesCountingLine answer out
Works listing answer source out = ⊥

-- The flush at the end of a run, around which a sink counts `old` and then `new` failures. It does
-- well, and no byte is unflushed, if the sink reports which are. Or it fails, which is counted.
abbrev pub FlushesLast : ℕ → ℕ → Option (List ℕ) → Type 0
FlushesLast old new unflushed = ((new ≡ old) × NoneUnflushed unflushed) ⊎ (new ≡ one_more old)

-- A text is written, or a part of it, and one failure is counted. Either way the flush follows.
pub data WritesLast (d : Device) (text : List ℕ) (unflushed : Option (List ℕ)) : Type 0 where
  whole : Appends d.before d.after text → FlushesLast d.failures d.failures_after unflushed
      → WritesLast d text unflushed
  part : AppendsFront d.before d.after text
      → FlushesLast (one_more d.failures) d.failures_after unflushed → WritesLast d text unflushed

-- After the conversion of a check, the line of the counts and the flush may each fail once. On a
-- fault only the flush may.
abbrev pub CountsCheck : Result Totals Fault → Device → Option (List ℕ) → Type 0
CountsCheck (Ok t) out unflushed = WritesLast out (counting_line t.games t.plies) unflushed
CountsCheck (Err f) out unflushed = FlushesLast out.failures out.failures_after unflushed

-- The devices count the failures that the conversion reports. After it the flush may add one, and
-- in a check the line of the counts another one. The flush is made, whatever failed before it.
abbrev pub CountsWork : Job → Result Totals Fault → Device → Device → Option (List ℕ) → Type 0
CountsWork (exporting mode) answer source out unflushed =
    (converted : ℕ) × CountsResult answer source (record out { failures_after = converted })
    × FlushesLast converted out.failures_after unflushed
CountsWork checking answer source out unflushed =
    CountsResult answer source nowhere × CountsCheck answer out unflushed
CountsWork listing answer source out unflushed = ⊥

-- A run that converts: a conversion with its result, what the devices count, and how the run ends.
-- `unflushed` are the bytes of `out` that are not flushed after it, if it reports them.
pub record RunsConversion (job : Job) (source out : Device) (unflushed : Option (List ℕ)) (err : Device) (status : ℕ) : Type 0 where
  pub answer : Result Totals Fault
  pub works : Works job answer source out
  pub counted : CountsWork job answer source out unflushed
  pub ends : Ends answer source out err status

-- a line could not be written, which is reported: the status is 1
pub record Breaks (out err : Device) (status : ℕ) : Type 0 where
  pub ends : status ≡ 1
  pub failed : HasFailed out
  pub told : Tells err (line (codes "output cannot be written"))

-- how a run ends by the result of its list
abbrev pub EndsList : Result Unit Stopped → Device → Device → Device → ℕ → Type 0
EndsList (Ok done) source out err status = Concludes source out err status
EndsList (Err (stopped.Refused f)) source out err status = Refuses f source out err status
EndsList (Err stopped.Unwritten) source out err status = Breaks out err status

-- A run that lists: a list with its result, what the devices count, and how the run ends.
pub record RunsList (source out : Device) (unflushed : Option (List ℕ)) (err : Device) (status : ℕ) : Type 0 where
  pub answer : Result Unit Stopped
  pub lists : ListResult source.before source.after answer out.before out.after
  pub counted : (listed : ℕ) × CountsList answer source.failures source.failures_after out.failures listed × FlushesLast listed out.failures_after unflushed
  pub ends : EndsList answer source out err status

-- the run of a job: a list, or a conversion
abbrev pub Runs : Job → Device → Device → Option (List ℕ) → Device → ℕ → Type 0
Runs listing source out unflushed err status = RunsList source out unflushed err status
Runs job source out unflushed err status = RunsConversion job source out unflushed err status
