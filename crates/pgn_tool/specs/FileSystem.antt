-- **Definition**: what a file system reports of the files that it opens and makes.
use Rattle.std.specs.Prelude.{◌≡◌, ℕ, ◌-◌, Bool, true, List, length, take, map, Option, None, Some, Result, Ok, Err}
use Rattle.std.specs.Str.Parse.{digits_value}
use Rattle.pgn_tool.specs.declared.machine.SystemFault.{SystemFault}
use Rattle.pgn_tool.specs.declared.machine.SystemFault.TheVariants.{Refused, NoMemory}
use Rattle.pgn_tool.specs.Machine.{Holding, holds, missing}
use Rattle.pgn_tool.specs.Files.{FileStep, made, refused, without_memory}

-- What opening a file results in. A file that is opened is there, and all its bytes are left. One
-- that is not opened is refused for a reason for which the file system refuses it, even if it is
-- there.
abbrev pub Finds : {F : Type 0} → Holding → (SystemFault → Bool) → (F → Option (List ℕ))
    → Result F SystemFault → Type 0
Finds missing refuses left (Ok file) = ⊥
Finds (holds text) refuses left (Ok file) = left file ≡ text
Finds holding refuses left (Err fault) = refuses fault ≡ true

-- One step with the files of a folder: making the file of a name resulted in this. A step of
-- another kind has no name.
pub data NameStep : Type 0 where
  making : List ℕ → Result Unit SystemFault → NameStep
  other : FileStep → NameStep

-- what making the file of a name resulted in
abbrev pub making_step : {F : Type 0} → List ℕ → Result F SystemFault → NameStep
making_step name (Ok file) = making name (Ok tt)
making_step name (Err fault) = making name (Err fault)

-- ---- names as numbers

-- the number that the digits of a name write, which are all its bytes but the last four
abbrev pub number_of : List ℕ → ℕ
number_of name = digits_value 10 (take (length name - 4) name)

-- what making the file with this number resulted in, as a step
abbrev pub step_at : ℕ → Result Unit SystemFault → FileStep
step_at number (Ok done) = made number
step_at number (Err Refused) = refused number
step_at number (Err NoMemory) = without_memory number

-- a step with a number in place of the name
abbrev pub step_of : NameStep → FileStep
step_of (making name outcome) = step_at (number_of name) outcome
step_of (other step) = step

-- the steps with numbers in place of names, if they are reported
abbrev pub numbered : Option (List NameStep) → Option (List FileStep)
numbered None = None
numbered (Some steps) = Some (map step_of steps)
