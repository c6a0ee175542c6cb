-- **Definition**: what a machine gives to a run: files to read, and devices.
-- The real machine reports nothing here. What is said of machines that report holds for the program
-- all the same: it is generic, so it does the same on each.
use Rattle.std.specs.Prelude.{◌≡◌, ℕ, Bool, true, List, Option, Result, Ok, Err}
use Rattle.std.specs.declared.io.ErrorKind.{ErrorKind}
use Rattle.std.specs.declared.io.ErrorKind.TheVariants.{OutOfMemory}
use Rattle.pgn_layout.specs.Device.{Device}
use Rattle.pgn_tool.specs.declared.machine.SystemFault.{SystemFault}
use Rattle.pgn_tool.specs.declared.machine.SystemFault.TheVariants.{Refused, NoMemory}
use Rattle.pgn_tool.specs.Files.{FileStep}
use Rattle.pgn_tool.specs.TaskRun.{IsUntouched}

-- ---- why words or a file are not given

-- what an error of this kind is to a run: a lack of memory, or any other reason
abbrev pub fault_of_kind : ErrorKind → SystemFault
fault_of_kind OutOfMemory = NoMemory
fault_of_kind _ = Refused

-- ---- files to read

-- What there is under a name: nothing that can be read, or a file, with its bytes if the machine
-- reports them.
pub data Holding : Type 0 where
  missing : Holding
  holds : Option (List ℕ) → Holding

-- a file was opened, so it is there: all its bytes are left, and no read has failed
abbrev pub IsOpened : Holding → Device → Type 0
IsOpened missing input = ⊥
IsOpened (holds text) input = (input.after ≡ text) × (input.failures_after ≡ 0)

-- What opening a file results in. If it is refused, that is for a reason for which the machine
-- refuses it, even if it is there, and the input stays as it is.
abbrev pub Opens : Holding → (SystemFault → Bool) → Device → Result Unit SystemFault → Type 0
Opens holding refuses input (Ok done) = IsOpened holding input
Opens holding refuses input (Err fault) = (refuses fault ≡ true) × IsUntouched input

-- ---- the devices of a run

-- What is read in a run. `standard` is standard input before the run, and after it what is read by
-- then, which may be a file. `holding` is what there is under each name, and `refuses` says for
-- which reasons the file of a name may be refused.
pub record Reading : Type 0 where
  pub standard : Device
  pub holding : List ℕ → Holding
  pub refuses : List ℕ → SystemFault → Bool

-- What a run writes to, before it and after it. `unflushed` are the bytes of standard output that
-- are not flushed before it, and `unflushed_after` those after it, if it reports them.
-- `lacks_memory` says that there was no memory for its buffer, and `has_room` that there was.
-- `files` are the steps with files, if they are reported.
pub record Outputs : Type 1 where
  pub out : Device
  pub unflushed : Option (List ℕ)
  pub unflushed_after : Option (List ℕ)
  pub lacks_memory : Bool
  pub has_room : Type 0
  pub files : Option (List FileStep)
  pub files_after : Option (List FileStep)
  pub err : Device

-- The devices before a run and after it. `second` reads a file that is opened once more.
pub record Machine : Type 1 where
  pub input : Reading
  pub second : Reading
  pub outputs : Outputs
  pub open outputs use *
