-- **Definition**: what the words of a command line ask for, and what `parse` returns for them.
use Rattle.std.specs.Prelude.{◌≡◌, ◌≢◌, ◌⊎◌, Bool, true, false, not, List, [], Option, Some, None, Result, Ok, Err}
use Rattle.std.specs.Prelude.{codes, if◌then◌else◌, option_map, option_and_then, string_bytes, unwrap_or}
use Rattle.std.specs.List.{list_any}
use Rattle.std.specs.Option.{option_map_or}
use Rattle.std.specs.Str.{bytes_eq}
use Rattle.clap.specs.Words.{Kinds, Row, Text, fault_of, first_of, one_of, subcommand_of}
use Rattle.clap.specs.declared.error.kind.ErrorKind.{ErrorKind}
use Rattle.clap.specs.declared.error.kind.ErrorKind.TheVariants.{DisplayHelp, DisplayVersion, OutOfMemory}
use Rattle.pgn_arguments.specs.CommandLine.{command_line}
use Rattle.pgn_arguments.specs.declared.arguments.Task.{Task}
use Rattle.pgn_arguments.specs.declared.arguments.Task.TheVariants.{Export, Checked, Check, List as ListGames, Split}
use Rattle.pgn_arguments.specs.declared.arguments.ParseFault.{ParseFault}
use Rattle.pgn_arguments.specs.declared.arguments.ParseFault.TheVariants.{Help, Bad, NoMemory}

-- A task, with its file's name as bytes. An export that reads its file twice and names none is no
-- task.
pub data Request : Type 0 where
  export : Bool → Option Text → Request
  checked : Bool → Option Text → Request
  check : Option Text → Request
  listing : Option Text → Request
  splitting : Text → Option Text → Request

-- the file's name
abbrev pub file_of : Request → Option Text
file_of (export reduced file) = file
file_of (checked reduced file) = file
file_of (check file) = file
file_of (listing file) = file
file_of (splitting dir file) = file

abbrev pub request_of : Task → Request
request_of (Export reduced file) = export reduced (option_map string_bytes file)
request_of (Checked reduced file) = checked reduced (Some (string_bytes file))
request_of (Check file) = check (option_map string_bytes file)
request_of (ListGames file) = listing (option_map string_bytes file)
request_of (Split dir file) = splitting (string_bytes dir) (option_map string_bytes file)

-- the flag of this id was given
abbrev pub is_given : Text → List Row → Bool
is_given id rows = option_map_or (λ text. bytes_eq text (codes "true")) (one_of id rows) false

-- the folder, which is required: arguments without one are rejected
abbrev pub dir_of : List Row → Text
dir_of rows = unwrap_or (first_of (codes "dir") rows) []

-- what `export` asks for: the first flag is `--checked`, the second `--reduced`
abbrev pub export_request : Bool → Bool → Option Text → Request
export_request true reduced file = checked reduced file
export_request false reduced file = export reduced file

-- the request that a subcommand of this name makes by its flags and values
abbrev pub request_named : Text → List Row → Option Request
request_named name rows =
    if bytes_eq name (codes "export")
    then Some (export_request (is_given (codes "checked") rows) (is_given (codes "reduced") rows) (first_of (codes "file") rows))
    else (if bytes_eq name (codes "check") then Some (check (first_of (codes "file") rows))
    else (if bytes_eq name (codes "list") then Some (listing (first_of (codes "file") rows))
    else (if bytes_eq name (codes "split") then Some (splitting (dir_of rows) (first_of (codes "file") rows))
    else None)))

-- the request of the subcommand that was found, if any
unfoldable pub request_from : Option (Text × List Row) → Option Request
request_from = option_and_then (λ (p : Text × List Row). request_named p.0 p.1)

-- the request of the subcommand that `clap` finds in the arguments, the first of which is the
-- program's name
unfoldable pub request_in : List Text → Option Request
request_in words = request_from (subcommand_of command_line words)

-- why the arguments are rejected, as `clap` defines it: for nothing, if they are a task
unfoldable pub refusals : List Text → Kinds
refusals words = fault_of command_line words

-- help or the version was asked for
abbrev pub is_shown : ErrorKind → Bool
is_shown DisplayHelp = true
is_shown DisplayVersion = true
is_shown _ = false

-- The fault of a request that is no task: it reads its file twice and names none, which the text
-- says, or there was no memory for the text.
abbrev pub LacksFile : Option Request → ParseFault → Type 0
LacksFile request (Help text) = ⊥
LacksFile request (Bad text) =
    ((reduced : Bool) × (request ≡ Some (checked reduced None))) × (string_bytes text ≡ codes "--checked needs FILE\n")
LacksFile request NoMemory = Unit {0}

-- The result is a task only if nothing is rejected, help only if help or the version is asked for,
-- and an error only if the arguments have a mistake or lack a file.
abbrev pub AnswersBy : List Text → Result Task ParseFault → Type 0
AnswersBy words (Ok task) = refusals words ≡ []
AnswersBy words (Err (Help text)) = list_any is_shown (refusals words) ≡ true
AnswersBy words (Err (Bad text)) =
    (list_any (λ k. not (is_shown k)) (refusals words) ≡ true)
    ⊎ ((refusals words ≡ []) × LacksFile (request_in words) (Bad text))
AnswersBy words (Err NoMemory) = Unit {0}

-- the result for an error of this kind
abbrev pub AnswersError : ErrorKind → ParseFault → Type 0
AnswersError kind (Help text) = is_shown kind ≡ true
AnswersError kind (Bad text) = (is_shown kind ≡ false) × (kind ≢ OutOfMemory)
AnswersError kind NoMemory = Unit {0}
