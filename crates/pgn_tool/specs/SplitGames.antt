-- **Definition**: which files a split makes of the games of a text, and what each of them holds.
-- Letters: s is a text, u are the bytes read so far, ts tokens, f is a fault, n the number of files
-- made before. `left_old` and `left_new` are the bytes that the source has left before a call and
-- after it, `before` and `after` the steps with files so far (a log), if they are reported.
use Rattle.std.specs.Prelude.{◌≡◌, ℕ, ◌^◌, ◌<◌, ◌≤◌, List, [], ◌∷◌, ◌++◌, length, take, map, Option, None, Some, Result, Ok, Err, IfSome}
use Rattle.std.specs.Io.KnownBytes.{Consumes}
use Rattle.pgn_layout.specs.Device.{one_more}
use Rattle.pgn_lexer.specs.Tokens.{Token}
use Rattle.pgn_lexer.specs.TokensOf.{tokens_of}
use Rattle.pgn_lexer.specs.Decided.{decided}
use Rattle.pgn_game.specs.declared.reason.Reason.TheVariants.{ReadFault, WriteFault, InputTooLong}
use Rattle.pgn_game.specs.declared.reason.Fault.{Fault}
use Rattle.pgn_game.specs.export.Text.{game_text, text_of, torn}
use Rattle.pgn_game.specs.games.Progress.{due, read}
use Rattle.pgn_game.specs.public.ConverterCalls.{IsRefused}
use Rattle.pgn_game.specs.public.Conversion.{Decides}
use Rattle.pgn_tool.specs.declared.split.Unsplit.{Unsplit}
use Rattle.pgn_tool.specs.declared.split.Unsplit.TheVariants.{Refused, NoMemory}
use Rattle.pgn_tool.specs.ListLines.{list_profile}
use Rattle.pgn_tool.specs.Files.{FileStep, closed, refusal_step, made, number_after, whole_files}
use Rattle.pgn_tool.specs.declared.files.CreateFault.{CreateFault}

-- ---- the files of a text

-- the export texts of the games that these tokens finish, up to the first token that is rejected
abbrev pub texts_in : List Token → List (List ℕ)
texts_in ts = map (game_text list_profile) (read list_profile ts).progress.games

-- what is written of the game after them
abbrev pub torn_text : List Token → List ℕ
torn_text ts = torn list_profile (read list_profile ts).progress.part

-- the file of a game that is not finished, after n others, if anything is written of it
abbrev pub torn_file : ℕ → List ℕ → List FileStep
torn_file n [] = []
torn_file n (byte ∷ bytes) = made (one_more n) ∷ closed (Some (byte ∷ bytes)) 0 ∷ []

-- a file for each finished game, which has its export text, and one for the game after them, if
-- anything is written of it
abbrev pub files_of : List Token → List FileStep
files_of ts = whole_files 0 (texts_in ts) ++ torn_file (number_after 0 (texts_in ts)) (torn_text ts)

-- these steps were added to the log, if it is reported
abbrev pub Logs : Option (List FileStep) → Option (List FileStep) → List FileStep → Type 0
Logs before after steps = IfSome before (λ log. after ≡ Some (log ++ steps))

-- The text s is split, and has no fault and at most 2^62 bytes. There is a file for each of its
-- games, and no other.
pub record IsSplitWhole (s : List ℕ) (before after : Option (List FileStep)) : Type 0 where
  pub short : length s ≤ 2 ^ 62
  pub passes : (read list_profile (tokens_of s)).fault ≡ None
  pub files : Logs before after (whole_files 0 (texts_in (tokens_of s)))

-- The text s is split up to its fault f. Each game before it has its file, and so has the game at
-- fault, if anything was written of it.
pub record IsSplit (s : List ℕ) (f : Fault) (before after : Option (List FileStep)) : Type 0 where
  pub fault : (read list_profile (tokens_of s)).fault ≡ Some f
  pub files : Logs before after (files_of (tokens_of s))

-- Reading ends after the bytes u. They decide no token that is rejected, and the files of the
-- tokens that they decide were made.
pub record SplitsNoMore (u : List ℕ) (before after : Option (List FileStep)) : Type 0 where
  pub passes : (read list_profile (decided u)).fault ≡ None
  pub files : Logs before after (files_of (decided u))

-- The last file, after n others, if it could not be made or written. `text` is what had to be
-- written.
-- - `not_made`: the file was not made, and nothing is written.
-- - `cut`: a prefix of the text is written, with at least `least` bytes, and not all.
pub data CutFile (n : ℕ) (text : List ℕ) (least : ℕ) : List FileStep → Type 0 where
  not_made : (fault : CreateFault) → least ≡ 0 → 0 < length text
      → CutFile n text least (refusal_step (one_more n) fault ∷ [])
  cut : (count failures : ℕ) → least ≤ count → count < length text → 0 < failures
      → CutFile n text least (made (one_more n) ∷ closed (Some (take count text)) failures ∷ [])

-- Files with these texts were made, and then one that was cut or could not be made.
pub record LogsCut (log : List FileStep) (after : Option (List FileStep)) (texts : List (List ℕ)) (text : List ℕ)
    (least : ℕ) : Type 0 where
  pub last : List FileStep
  pub cut : CutFile (number_after 0 texts) text least last
  pub logged : after ≡ Some (log ++ (whole_files 0 texts ++ last))

-- why a split stops if a file could not be made or written at the token with this place: a lack of
-- memory, or a write fault at this place
abbrev pub StopsAt : ℕ → Unsplit → Type 0
StopsAt place NoMemory = Unit {0}
StopsAt place (Refused f) = f ≡ record { at = place; reason = WriteFault }

-- A file could not be made or written at `token`. The games before it have their files. `text` is
-- what had to be written of its own game up to this token. At least what had to be written up to
-- the tokens before it is written, so it is the first token with text missing.
pub record CutsFile (tokens : List Token) (why : Unsplit) (before after : Option (List FileStep)) : Type 0 where
  pub front : List Token
  pub token : Token
  pub rest : List Token
  pub cut : tokens ≡ front ++ token ∷ rest
  pub passes : (read list_profile (front ++ token ∷ [])).fault ≡ None
  pub stops : StopsAt token.at why
  pub text : List ℕ
  pub due_text : due list_profile (front ++ token ∷ [])
      ≡ text_of list_profile (read list_profile front).progress.games ++ text
  pub files : IfSome before (λ log. LogsCut log after (texts_in front) text (length (torn_text front)))

-- How a split stops.
-- - `rejected`: by the fault of the input. Its bytes before place 2^62 show it.
-- - `unread`: a read failed, after the bytes u.
-- - `too_long`: the source has given a byte at place 2^62, and those before it were read.
-- - `unwritten`: a file could not be made or written, at one of the tokens that the bytes read by
--   then decide.
pub data SplitStops (left_old left_new : Option (List ℕ)) (before after : Option (List FileStep)) : Unsplit → Type 0 where
  rejected : (f : Fault) → IfSome left_old (λ s. IsRefused list_profile s f × IsSplit s f before after)
      → SplitStops left_old left_new before after (Refused f)
  unread : (u : List ℕ) → Consumes left_old left_new u → length u ≤ 2 ^ 62 → SplitsNoMore u before after
      → SplitStops left_old left_new before after (Refused (record { at = length u; reason = ReadFault }))
  too_long : (u rest : List ℕ) → Consumes left_old left_new (u ++ rest) → length u ≡ 2 ^ 62
      → 0 < length rest → SplitsNoMore u before after
      → SplitStops left_old left_new before after (Refused (record { at = length u; reason = InputTooLong }))
  unwritten : (tokens : List Token) (why : Unsplit) → Decides left_old left_new tokens
      → CutsFile tokens why before after → SplitStops left_old left_new before after why

-- What a split results in: what the source had left is split, up to its end, or the split stops.
abbrev pub SplitResult : Option (List ℕ) → Option (List ℕ) → Result Unit Unsplit
    → Option (List FileStep) → Option (List FileStep) → Type 0
SplitResult left_old left_new (Ok done) before after = IfSome left_old (λ s. IsSplitWhole s before after)
SplitResult left_old left_new (Err why) before after = SplitStops left_old left_new before after why
