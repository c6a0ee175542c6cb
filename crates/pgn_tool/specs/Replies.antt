-- **Definition**: what is reported if no task is run.
use Rattle.std.specs.Prelude.{◌≡◌, ℕ, ◌≤◌, List, codes, string_bytes}
use Rattle.std.specs.Io.KnownBytes.{Appends}
use Rattle.pgn_layout.specs.Device.{Device, IsStill}
use Rattle.pgn_tool.specs.TaskRun.{HasFailed, IsUntouched, Tells, line}
use Rattle.pgn_arguments.specs.declared.arguments.ParseFault.{ParseFault}
use Rattle.pgn_arguments.specs.declared.arguments.ParseFault.TheVariants.{Help, Bad, NoMemory}

-- the text is written to standard output, or that failed, which is reported: the status is 0 or 1
pub record Shows (text : List ℕ) (out err : Device) (status : ℕ) : Type 0 where
  pub ends : status ≤ 1
  pub well : status ≡ 0 → IsStill out × Appends out.before out.after text × IsUntouched err
  pub ill : status ≡ 1 → HasFailed out × Tells err (line (codes "output cannot be written"))

-- this text is reported on standard error with this status, and nothing is written to standard
-- output
pub record OnlyReports (text : List ℕ) (out err : Device) (status code : ℕ) : Type 0 where
  pub ends : status ≡ code
  pub told : Tells err text
  pub silent : IsUntouched out

-- what a run does if the words are no task: it shows the help or the version, or reports why
abbrev pub AnswersFault : ParseFault → Device → Device → ℕ → Type 0
AnswersFault (Help text) out err status = Shows (string_bytes text) out err status
AnswersFault (Bad text) out err status = OnlyReports (string_bytes text) out err status 2
AnswersFault NoMemory out err status = OnlyReports (line (codes "out of memory")) out err status 3
