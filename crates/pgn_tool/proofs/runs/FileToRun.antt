-- How a run of the program is put together from opening its file and carrying out its task.
use Rattle.pgn_tool.proofs.Words.{◌≡◌, ℕ, List, Option, None, Some, Result, Ok, Err, IfOk, Device, SystemFault, Holding, IsOpened, Machine, Reading, holds, missing, Carries, EndsUnopened, IsMissing, RunsAnswer, RunsWords, StartsFrom, by_fault, by_task, file_source, source_of, unopened, IsUntouched, none-some, arith, common_steps}
use Rattle.pgn_arguments.specs.declared.arguments.Task.{Task}
use Rattle.pgn_arguments.specs.declared.arguments.ParseFault.{ParseFault}
use Rattle.pgn_arguments.specs.Requests.{AnswersBy, file_of, request_in, request_of}

-- the device that was opened: what it had at first, and what it has in the end
abbrev left_at : Option (List ℕ) → ℕ → Reading → Device
left_at left failures r = record { before = left; after = r.standard.after; failures = failures; failures_after = r.standard.failures_after }

-- the device until then
abbrev pub opening : Option (List ℕ) → ℕ → Reading → Device
opening left failures r = record { before = r.standard.before; after = left; failures = r.standard.failures; failures_after = failures }

held_is : (h : Holding) (left : Option (List ℕ)) (failures : ℕ) (r : Reading) → IsOpened h (opening left failures r)
    → file_source h r ≡ Some (left_at left failures r)
held_is missing left failures r is = absurd is
held_is (holds text) left failures r (same, none) = rw (same, none)

-- the source is what was opened
pub opened_is : (file : Option (List ℕ)) (left : Option (List ℕ)) (failures : ℕ) (r : Reading) (answer : Result Unit SystemFault)
    → answer ≡ Ok tt
    → StartsFrom file r.holding r.refuses (opening left failures r) answer → source_of file r ≡ Some (left_at left failures r)
opened_is file left failures r answer is starts = grind (arith, common_steps, held_is)

-- the file was not opened
pub unopened_is : (file : Option (List ℕ)) (task : Task) (m : Machine) (status : ℕ) (fault : SystemFault)
    → file_of (request_of task) ≡ file → StartsFrom file m.input.holding m.input.refuses m.input.standard (Err fault)
    → IsUntouched m.second.standard → m.files_after ≡ m.files
    → IsUntouched m.out → EndsUnopened fault m.err status → Carries task m status
unopened_is None task m status fault same starts second files out ends = absurd starts
unopened_is (Some name) task m status fault same (refuses, stays) second files out ends =
    unopened name fault same refuses (stays, second, files) out ends

-- the words were parsed, and what that resulted in was carried out
pub ran_answer : (words : List (List ℕ)) (m : Machine) (status : ℕ) (answer : Result Task ParseFault)
    → IfOk answer (λ task. request_in words ≡ Some (request_of task))
    → AnswersBy words answer → RunsAnswer answer m status → RunsWords words m status
ran_answer words m status (Ok task) request free carries = by_task task request free carries
ran_answer words m status (Err fault) request refused (answers, idle) = by_fault fault refused answers idle

-- a file that is not there is reported, and nothing is written
pub missing_told : (task : Task) (m : Machine) (status : ℕ) (name : List ℕ) → file_of (request_of task) ≡ Some name
    → m.input.holding name ≡ missing → Carries task m status → IsMissing m.outputs status
missing_told task m status name named gone h = grind (arith, common_steps, none-some)
