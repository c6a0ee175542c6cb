-- **Definition**: what a run of the program does to the devices of a machine, for the words of its
-- command line. The letter o is for the outputs of such a machine.
use Rattle.std.specs.Prelude.{◌≡◌, ℕ, ◌≤◌, Bool, true, false, List, [], ◌∷◌, map, codes, Option, None, Some, Result, Ok, Err, String, Vec, string_bytes}
use Rattle.std.specs.Global.{Global}
use Rattle.pgn_layout.specs.Device.{Device, NoneUnflushed}
use Rattle.pgn_game.specs.declared.reason.Reason.TheVariants.{ReadFault}
use Rattle.pgn_game.specs.declared.mode.Mode.{Mode}
use Rattle.pgn_game.specs.games.Reason.{line_of}
use Rattle.pgn_arguments.specs.declared.arguments.Task.{Task}
use Rattle.pgn_arguments.specs.declared.arguments.Task.TheVariants.{Checked, Split}
use Rattle.pgn_arguments.specs.declared.arguments.ParseFault.{ParseFault}
use Rattle.pgn_tool.specs.declared.machine.SystemFault.{SystemFault}
use Rattle.pgn_tool.specs.declared.machine.SystemFault.TheVariants.{Refused, NoMemory}
use Rattle.pgn_tool.specs.Files.{added, entered}
use Rattle.pgn_tool.specs.Machine.{Holding, Machine, Opens, Outputs, Reading, holds, missing}
use Rattle.pgn_tool.specs.Replies.{AnswersFault}
use Rattle.pgn_arguments.specs.Requests.{AnswersBy, file_of, refusals, request_in, request_of}
use Rattle.pgn_tool.specs.TaskRun.{Answers, IsFlushed, IsSmooth, IsUntouched, Job, Runs, Tells, job_of, line, mode_for}
use Rattle.pgn_tool.specs.CheckedRun.{AnswersSame, AnswersTwice, RunsTwice}
use Rattle.pgn_tool.specs.SplitFiles.{RunsSplit}

-- ---- what is read

-- What opening the file of a task results in. If it names none, standard input stays as it is.
abbrev pub StartsFrom : Option (List ℕ) → (List ℕ → Holding) → (List ℕ → SystemFault → Bool)
    → Device → Result Unit SystemFault → Type 0
StartsFrom (Some name) holding refuses input answer =
    Opens (holding name) (refuses name) input answer
StartsFrom None holding refuses input (Ok done) = IsUntouched input
StartsFrom None holding refuses input (Err fault) = ⊥

-- the file that is read, from its first byte on, if it is there
abbrev pub file_source : Holding → Reading → Option Device
file_source missing r = None
file_source (holds text) r =
    Some (record {
      before = text;
      after = r.standard.after;
      failures = 0;
      failures_after = r.standard.failures_after;
    })

-- The source of a task: the file that it names, from its first byte on, or standard input if it
-- names none.
abbrev pub source_of : Option (List ℕ) → Reading → Option Device
source_of None r = Some r.standard
source_of (Some name) r = file_source (r.holding name) r

-- ---- how a task ends

-- a text is reported on standard error, and this is the status
abbrev pub Reports : List ℕ → ℕ → Device → ℕ → Type 0
Reports text code err status = (status ≡ code) × Tells err (line text)

-- how a run ends if the file cannot be opened: as if a read failed at byte 0, or for a lack of
-- memory
abbrev pub EndsUnopened : SystemFault → Device → ℕ → Type 0
EndsUnopened Refused err status =
    Reports (line_of (record { at = 0; reason = ReadFault })) 1 err status
EndsUnopened NoMemory err status = Reports (codes "out of memory") 3 err status

-- a file could not be opened, which is reported, and nothing is written to standard output
abbrev pub IsMissing : Outputs → ℕ → Type 0
IsMissing o status = (fault : SystemFault) × EndsUnopened fault o.err status × IsUntouched o.out

-- A task that writes to standard output.
-- - `unbuffered`: there is no memory for its buffer, and nothing is read or written.
-- - `streams`: there was room for it, and the task runs. If no device fails, `Answers` says what it
--   does with the text read.
pub data RunsStream (job : Job) (source : Device) (o : Outputs) (status : ℕ) : Type 0 where
  unbuffered : o.lacks_memory ≡ true → IsUntouched source → IsUntouched o.out
      → Reports (codes "out of memory") 3 o.err status → RunsStream job source o status
  streams : o.has_room → status ≤ 1 → Runs job source o.out o.unflushed_after o.err status
      → ((s : List ℕ) → IsSmooth s source o.out → Answers job s o.out o.err status)
      → RunsStream job source o status

-- A task that reads two sources, which needs that buffer too. If no device fails, `AnswersTwice`
-- says what it does, and if both texts are the same, `AnswersSame` says more.
pub data RunsBoth (mode : Mode) (first second : Device) (o : Outputs) (status : ℕ) : Type 0 where
  unbuffered_twice : o.lacks_memory ≡ true → IsUntouched first → IsUntouched second
      → IsUntouched o.out → Reports (codes "out of memory") 3 o.err status
      → RunsBoth mode first second o status
  streams_twice : o.has_room → status ≤ 1
      → RunsTwice mode first second o.out o.unflushed_after o.err status
      → ((s r : List ℕ) → IsSmooth s first o.out → IsSmooth r second o.out
      → AnswersTwice mode s r o.out o.err status)
      → ((s : List ℕ) → IsSmooth s first o.out → IsSmooth s second o.out
      → AnswersSame mode s o.out o.err status)
      → RunsBoth mode first second o status

-- The file that is read by now is opened once more.
-- - `unopened_again`: it is refused, for a reason for which the machine refuses the file of this
--   name. Nothing is read or written.
-- - `opened_again`: it is read twice.
pub data RunsAgain (mode : Mode) (name : List ℕ) (first : Device) (second : Reading) (o : Outputs)
    (status : ℕ) : Type 0 where
  unopened_again : (fault : SystemFault) → second.refuses name fault ≡ true
      → IsUntouched first → IsUntouched second.standard → IsUntouched o.out
      → EndsUnopened fault o.err status → RunsAgain mode name first second o status
  opened_again : (again : Device) → source_of (Some name) second ≡ Some again
      → RunsBoth mode first again o status → RunsAgain mode name first second o status

-- only `split` makes files
abbrev pub makes_files : Task → Bool
makes_files (Split dir file) = true
makes_files _ = false

-- A task that makes no file: `export --checked` opens its file once more, and no other task does.
abbrev pub RunsToOutput : Task → Device → Reading → Outputs → ℕ → Type 0
RunsToOutput (Checked reduced file) source second o status =
    RunsAgain (mode_for reduced) (string_bytes file) source second o status
RunsToOutput task source second o status =
    RunsStream (job_of task) source o status × IsUntouched second.standard

-- The task, on what is read. Only `split` makes files, in its folder, and it writes nothing to
-- standard output.
abbrev pub RunsOpened : Task → Device → Reading → Outputs → ℕ → Type 0
RunsOpened (Split dir file) source second o status =
    RunsSplit (added o.files (entered (string_bytes dir) ∷ [])) o.files_after source o.err status
    × IsUntouched o.out × IsUntouched second.standard
RunsOpened task source second o status =
    RunsToOutput task source second o status × (o.files_after ≡ o.files)

-- the task, on the input as it is
abbrev pub RunsOnInput : Task → Machine → ℕ → Type 0
RunsOnInput task m status = RunsOpened task m.input.standard m.second m.outputs status

-- a task that reads both inputs as they are, and makes no file
abbrev pub RunsOnBoth : Mode → Machine → ℕ → Type 0
RunsOnBoth mode m status =
    RunsBoth mode m.input.standard m.second.standard m.outputs status × (m.files_after ≡ m.files)

-- nothing was read, and no file was made
abbrev pub IsIdle : Machine → Type 0
IsIdle m =
    IsUntouched m.input.standard × IsUntouched m.second.standard × (m.files_after ≡ m.files)

-- How a task is carried out.
-- - `unopened`: its file cannot be opened, for a reason for which the machine refuses this name.
--   Nothing is read or written.
-- - `opened`: the task runs on what is read.
pub data Carries (task : Task) (m : Machine) (status : ℕ) : Type 0 where
  unopened : (name : List ℕ) (fault : SystemFault) → file_of (request_of task) ≡ Some name
      → m.input.refuses name fault ≡ true
      → IsIdle m → IsUntouched m.out → EndsUnopened fault m.err status
      → Carries task m status
  opened : (source : Device) → source_of (file_of (request_of task)) m.input ≡ Some source
      → RunsOpened task source m.second m.outputs status → Carries task m status

-- ---- by the words

-- A run with these words of a command line.
-- - `by_task`: they are a task, which is carried out.
-- - `by_fault`: they are none, or there was no memory to parse them.
pub data RunsWords (words : List (List ℕ)) (m : Machine) (status : ℕ) : Type 0 where
  by_task : (task : Task) → request_in words ≡ Some (request_of task) → refusals words ≡ []
      → Carries task m status → RunsWords words m status
  by_fault : (fault : ParseFault) → AnswersBy words (Err fault)
      → AnswersFault fault m.out m.err status → IsIdle m → RunsWords words m status

-- how a run goes on when the words are parsed: to a task, or why they are none
abbrev pub RunsAnswer : Result Task ParseFault → Machine → ℕ → Type 0
RunsAnswer (Ok task) m status = Carries task m status
RunsAnswer (Err fault) m status = AnswersFault fault m.out m.err status × IsIdle m

-- how a run ends if the words cannot be read
abbrev pub EndsUnread : SystemFault → Device → ℕ → Type 0
EndsUnread Refused err status = Reports (codes "arguments cannot be read") 2 err status
EndsUnread NoMemory err status = Reports (codes "out of memory") 3 err status

-- Nothing that standard output took is unflushed at the end, if nothing was before the run. Or a
-- call of it failed, and the status is 1.
abbrev pub EndsFlushed : Outputs → ℕ → Type 0
EndsFlushed o status = NoneUnflushed o.unflushed → IsFlushed o.out o.unflushed_after status

-- What a part of a run does. The status is at most 3, and standard output is flushed.
pub record RunsPart (does : Machine → ℕ → Type 0) (m : Machine) (status : ℕ) : Type 0 where
  pub runs : does m status
  pub low : status ≤ 3
  pub flushed : EndsFlushed m.outputs status

-- what a run does, with the words of its command line or without
abbrev pub Ran : Result (Vec (String Global) Global) SystemFault → Machine → ℕ → Type 0
Ran (Ok words) m status = RunsWords (map string_bytes words.items) m status
Ran (Err fault) m status = EndsUnread fault m.err status × IsUntouched m.out × IsIdle m
