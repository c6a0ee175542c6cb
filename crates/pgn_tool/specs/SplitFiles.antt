-- **Definition**: the files that a split makes, and what one game adds to them.
-- Letters: n is the number of files made before, f a fault. A log is the list of all steps with
-- files so far, if it is reported. `taken` and `failures` are the bytes that a file has taken, if
-- it reports them, and its count of failures.
use Rattle.std.specs.Prelude.{◌≡◌, ℕ, ◌<◌, Bool, List, [], ◌∷◌, ◌++◌, codes, Option, Result, Ok, Err}
use Rattle.pgn_layout.specs.Device.{Device, one_more}
use Rattle.pgn_game.specs.declared.reason.Reason.{Reason}
use Rattle.pgn_game.specs.declared.reason.Reason.TheVariants.{ReadFault, WriteFault}
use Rattle.pgn_game.specs.declared.reason.Fault.{Fault}
use Rattle.pgn_game.specs.games.Reason.{line_of}
use Rattle.pgn_game.specs.public.Conversion.{CountsResult}
use Rattle.pgn_game.specs.public.GamesCalls.{Games, ReadsNext}
use Rattle.pgn_tool.specs.declared.files.CreateFault.TheVariants as create_faults
use Rattle.pgn_tool.specs.declared.game_sink.GameFile.{GameFile}
use Rattle.pgn_tool.specs.declared.game_sink.GameFile.TheVariants as game_files
use Rattle.pgn_tool.specs.declared.split.Unsplit.{Unsplit}
use Rattle.pgn_tool.specs.declared.split.Unsplit.TheVariants.{Refused, NoMemory}
use Rattle.pgn_tool.specs.TaskRun.{IsUntouched, Tells, line}
use Rattle.pgn_tool.specs.SplitGames.{SplitResult}
use Rattle.pgn_tool.specs.Files.{FileStep, IsBegun, added, closed, file_sink, file_steps, made, number_after, refused, whole_files, without_memory}

-- ---- one game

-- why a split stops at the file of a game: a lack of memory is reported in place of the write fault
-- that it causes
abbrev pub reported : {A : Type 0} → GameFile A → Fault → Unsplit
reported (game_files.Refused create_faults.NoMemory failed) fault = NoMemory
reported file fault = Refused fault

-- the result of a call of `next` with this file, as the split reports it
abbrev pub settled : {A B : Type 0} → GameFile A → Result B Fault → Result B Unsplit
settled file (Ok x) = Ok x
settled file (Err fault) = Err (reported file fault)

-- One call of `next` with the file of the next game as its sink: what the call returned and read,
-- and the steps of the file, which is closed at the end if it was made.
pub record GameSplit {A : Type 0} (taken : A → Option (List ℕ)) (failures : A → ℕ) (old new : Games) (source : Device)
    (log log_after : Option (List FileStep)) (result : Result Bool Unsplit) : Type 0 where
  pub answer : Result Bool Fault
  pub file : GameFile A
  pub settles : result ≡ settled file answer
  pub logged : log_after ≡ added log (file_steps taken failures (one_more old.converter.games) file)
  pub begun : IsBegun taken failures log file
  pub reads : ReadsNext old new answer source (file_sink taken failures log file)
  pub counted : CountsResult answer source (file_sink taken failures log file)

-- ---- how a split ends

-- the fault is no failed write, so it is one of the input or the source
abbrev pub IsOwn : Reason → Type 0
IsOwn WriteFault = ⊥
IsOwn _ = Unit {0}

-- The last file of a split, after n whole ones, by the result.
-- - `all_whole`: there is no fault, and no other file.
-- - `not_begun`: a fault of the input or the source came before anything was written of the next
--   game.
-- - `torn`: such a fault came in a game, and the writes to its file did not fail.
-- - `not_made`: the file of a game was refused.
-- - `unwritten`: a write to it failed.
-- - `no_memory`: there was no memory for making it.
pub data LastFile (n : ℕ) : Result Unit Unsplit → List FileStep → Type 0 where
  all_whole : LastFile n (Ok tt) []
  not_begun : (f : Fault) → IsOwn f.reason → LastFile n (Err (Refused f)) []
  torn : (f : Fault) (text : Option (List ℕ)) → IsOwn f.reason → LastFile n (Err (Refused f)) (made (one_more n) ∷ closed text 0 ∷ [])
  not_made : (at : ℕ) → LastFile n (Err (Refused (record { at = at; reason = WriteFault }))) (refused (one_more n) ∷ [])
  unwritten : (at failures : ℕ) (text : Option (List ℕ)) → 0 < failures
      → LastFile n (Err (Refused (record { at = at; reason = WriteFault }))) (made (one_more n) ∷ closed text failures ∷ [])
  no_memory : LastFile n (Err NoMemory) (without_memory (one_more n) ∷ [])

-- The files of a whole split. They are numbered from 1, each is closed before the next is made, and
-- none is made after one that failed.
pub record SplitFiles (before after : Option (List FileStep)) (answer : Result Unit Unsplit) : Type 0 where
  pub texts : List (List ℕ)
  pub last : List FileStep
  pub logged : after ≡ added before (whole_files 0 texts ++ last)
  pub ends : LastFile (number_after 0 texts) answer last

-- If the reason is `ReadFault`, the source counts one failure more, and for any other reason none.
abbrev pub CountsSource : Reason → ℕ → ℕ → Type 0
CountsSource ReadFault old new = new ≡ one_more old
CountsSource _ old new = new ≡ old

-- the same for the result of a split: without a fault the count stays
abbrev pub CountsSplit : {A : Type 0} → Result A Unsplit → ℕ → ℕ → Type 0
CountsSplit (Ok done) old new = new ≡ old
CountsSplit (Err (Refused f)) old new = CountsSource f.reason old new
CountsSplit (Err NoMemory) old new = new ≡ old

-- the status of a run by the result of its split, and what is reported on standard error
abbrev pub EndsSplit : Result Unit Unsplit → Device → ℕ → Type 0
EndsSplit (Ok done) err status = (status ≡ 0) × IsUntouched err
EndsSplit (Err (Refused f)) err status = (status ≡ 1) × Tells err (line (line_of f))
EndsSplit (Err NoMemory) err status = (status ≡ 3) × Tells err (line (codes "out of memory"))

-- A run of `split`: its result, the files that it made, what it read and wrote, the failures of the
-- source, and how the run ends.
pub record RunsSplit (before after : Option (List FileStep)) (source err : Device) (status : ℕ) : Type 0 where
  pub answer : Result Unit Unsplit
  pub files : SplitFiles before after answer
  pub splits : SplitResult source.before source.after answer before after
  pub counted : CountsSplit answer source.failures source.failures_after
  pub ends : EndsSplit answer err status
