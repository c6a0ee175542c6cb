-- **Definition**: the files that games are written to: what was done with them, step by step.
-- Letters: n is the number of a file. In `number_after` and `whole_files` it is that of the last
-- file before. A log is the list of all steps so far. `taken` and `failures` are the bytes that a
-- file has taken, if it reports them, and its count of failures.
use Rattle.std.specs.Prelude.{◌≡◌, ℕ, Bool, true, false, List, [], ◌∷◌, ◌++◌, Option, None, Some, Result, Ok, Err}
use Rattle.pgn_layout.specs.Device.{Device, one_more}
use Rattle.pgn_tool.specs.declared.files.CreateFault.{CreateFault}
use Rattle.pgn_tool.specs.declared.files.CreateFault.TheVariants as create_faults
use Rattle.pgn_tool.specs.declared.game_sink.GameFile.{GameFile}
use Rattle.pgn_tool.specs.declared.game_sink.GameFile.TheVariants.{NotMade, Open, Refused}

-- One step.
-- - `entered`: files are made in the folder with this path from now on.
-- - `made`: this file was made.
-- - `refused`: it was not, for another reason than a lack of memory.
-- - `without_memory`: it was not, for a lack of memory.
-- - `closed`: a file was closed, which had taken these bytes, if it reports them, and counted so
--   many failures.
pub data FileStep : Type 0 where
  entered : List ℕ → FileStep
  made : ℕ → FileStep
  refused : ℕ → FileStep
  without_memory : ℕ → FileStep
  closed : Option (List ℕ) → ℕ → FileStep

-- the step of file n, if it was not made
abbrev pub refusal_step : ℕ → CreateFault → FileStep
refusal_step n create_faults.Refused = refused n
refusal_step n create_faults.NoMemory = without_memory n

-- the step of file n, whether it was made or not
abbrev pub creation_step : {A : Type 0} → ℕ → Result A CreateFault → FileStep
creation_step n (Ok out) = made n
creation_step n (Err fault) = refusal_step n fault

-- a log with more steps at its end, if it is reported
abbrev pub added : {A : Type 0} → Option (List A) → List A → Option (List A)
added None steps = None
added (Some log) steps = Some (log ++ steps)

-- a new file has no bytes, if the log is reported
abbrev pub IsNew : {A : Type 0} → Option (List A) → Option (List ℕ) → Type 0
IsNew None bytes = Unit {0}
IsNew (Some log) bytes = bytes ≡ Some []

-- ---- the file of a game

-- these bytes, if the log is reported
abbrev pub if_logged : Option (List FileStep) → Option (List ℕ) → Option (List ℕ)
if_logged None bytes = None
if_logged (Some log) bytes = bytes

-- the bytes that the file of a game has taken, which are none unless it is open
abbrev pub taken_by : {A : Type 0} → (A → Option (List ℕ)) → GameFile A → Option (List ℕ)
taken_by taken NotMade = Some []
taken_by taken (Open out) = taken out
taken_by taken (Refused fault failed) = Some []

-- the same, if the log is reported
abbrev pub bytes_in : {A : Type 0} → (A → Option (List ℕ)) → Option (List FileStep) → GameFile A → Option (List ℕ)
bytes_in taken log file = if_logged log (taken_by taken file)

-- how many writes to the file of a game have failed
abbrev pub failures_in : {A : Type 0} → (A → ℕ) → GameFile A → ℕ
failures_in failures NotMade = 0
failures_in failures (Open out) = failures out
failures_in failures (Refused fault failed) = failed

-- there are bytes
abbrev pub is_text : Option (List ℕ) → Bool
is_text None = false
is_text (Some []) = false
is_text (Some (byte ∷ bytes)) = true

-- there are bytes, or the log is not reported
abbrev pub has_bytes : Option (List FileStep) → Option (List ℕ) → Bool
has_bytes None bytes = true
has_bytes (Some log) bytes = is_text bytes

-- the file of a game is made at its first byte: it is not made yet, or it is open and has bytes
abbrev pub is_begun : {A : Type 0} → (A → Option (List ℕ)) → Option (List FileStep) → GameFile A → Bool
is_begun taken log NotMade = true
is_begun taken log (Open out) = has_bytes log (taken out)
is_begun taken log (Refused fault failed) = false

-- that holds unless a write has failed
abbrev pub IsBegun : {A : Type 0} → (A → Option (List ℕ)) → (A → ℕ) → Option (List FileStep) → GameFile A → Type 0
IsBegun taken failures log file = failures_in failures file ≡ 0 → is_begun taken log file ≡ true

-- the steps of making the file of a game, which is file n: none if it is not made yet
abbrev pub making_steps : {A : Type 0} → ℕ → GameFile A → List FileStep
making_steps n NotMade = []
making_steps n (Open out) = made n ∷ []
making_steps n (Refused fault failed) = refusal_step n fault ∷ []

-- the steps of closing it: none if it is not open
abbrev pub closing_steps : {A : Type 0} → (A → Option (List ℕ)) → (A → ℕ) → GameFile A → List FileStep
closing_steps taken failures NotMade = []
closing_steps taken failures (Open out) = closed (taken out) (failures out) ∷ []
closing_steps taken failures (Refused fault failed) = []

-- all steps of the file of a game
abbrev pub file_steps : {A : Type 0} → (A → Option (List ℕ)) → (A → ℕ) → ℕ → GameFile A → List FileStep
file_steps taken failures n file = making_steps n file ++ closing_steps taken failures file

-- the file of a game as the sink of this game, which begins with no bytes
abbrev pub file_sink : {A : Type 0} → (A → Option (List ℕ)) → (A → ℕ) → Option (List FileStep) → GameFile A → Device
file_sink taken failures log file = record {
  before = bytes_in taken log NotMade;
  after = bytes_in taken log file;
  failures = 0;
  failures_after = failures_in failures file;
}

-- ---- the files of a run

-- files with these texts, each of which was made, written and closed; n were made before them
abbrev pub whole_files : ℕ → List (List ℕ) → List FileStep
whole_files n [] = []
whole_files n (text ∷ texts) = made (one_more n) ∷ closed (Some text) 0 ∷ whole_files (one_more n) texts

-- how many files were made with these and those before
abbrev pub number_after : ℕ → List (List ℕ) → ℕ
number_after n [] = n
number_after n (text ∷ texts) = number_after (one_more n) texts
