-- The definitions at command lines that are written out.
use Rattle.pgn_arguments.proofs.Words.{◌≡◌, ℕ, List, refl, codes, true, false, [], ◌∷◌, ◌++◌, Some, None, ◌==◌, if◌then◌else◌, Text, ErrorKind, ArgumentConflict, DisplayHelp, DisplayVersion, InvalidSubcommand, MissingRequiredArgument, MissingSubcommand, UnknownArgument, Request, check, checked, export, listing, splitting}
use Prim.Native.String.{String}
use Rattle.pgn_arguments.proofs.commands.SubcommandToRequest.{whole_line}
use Rattle.pgn_arguments.specs.Requests.{refusals, request_from, request_in}

unfoldable line_on_words : Unit {0}
unfolding whole_line refusals request_from request_in
line_on_words = tt

-- the words between spaces, behind a first one
abbrev words_from : Text → List ℕ → List Text
words_from word [] = word ∷ []
words_from word (c ∷ s) = (if c == 32 then word ∷ [] else []) ++ words_from (if c == 32 then [] else word ++ c ∷ []) s

abbrev words : String → List Text
words line = words_from [] (codes line)

-- what a line asks for; it is not rejected
abbrev Asks : String → Request → Type 0
Asks line request = (request_in (words line) ≡ Some request) × (refusals (words line) ≡ [])

abbrev Refuses : String → List ErrorKind → Type 0
Refuses line kinds = refusals (words line) ≡ kinds

command_lines : Unit {0}
unfolding line_on_words
command_lines =
    let exports : Asks "pgn_tool export" (export false None) = (refl, refl) in
    let exports_a_file : Asks "pgn_tool export a.pgn" (export false (Some (codes "a.pgn"))) = (refl, refl) in
    let reduces : Asks "pgn_tool export --reduced a.pgn" (export true (Some (codes "a.pgn"))) = (refl, refl) in
    let flag_last : Asks "pgn_tool export a.pgn --reduced" (export true (Some (codes "a.pgn"))) = (refl, refl) in
    let file_named_as_a_flag : Asks "pgn_tool export -- --reduced" (export false (Some (codes "--reduced"))) = (refl, refl) in
    let reads_twice : Asks "pgn_tool export --checked a.pgn" (checked false (Some (codes "a.pgn"))) = (refl, refl) in
    let both_flags : Asks "pgn_tool export --reduced a.pgn --checked" (checked true (Some (codes "a.pgn"))) = (refl, refl) in
    -- no task: the program rejects it itself
    let checked_alone : Asks "pgn_tool export --checked" (checked false None) = (refl, refl) in
    let checked_check : Refuses "pgn_tool check --checked a.pgn" (UnknownArgument ∷ []) = refl in
    let checks : Asks "pgn_tool check" (check None) = (refl, refl) in
    let checks_a_file : Asks "pgn_tool check a.pgn" (check (Some (codes "a.pgn"))) = (refl, refl) in
    let lists : Asks "pgn_tool list" (listing None) = (refl, refl) in
    let lists_a_file : Asks "pgn_tool list a.pgn" (listing (Some (codes "a.pgn"))) = (refl, refl) in
    let alone : request_in (codes "pgn_tool" ∷ []) ≡ None = refl in
    let alone_refused : Refuses "pgn_tool" (MissingSubcommand ∷ []) = refl in
    let two_files : Refuses "pgn_tool export a b" (UnknownArgument ∷ []) = refl in
    let reduced_twice : Refuses "pgn_tool export --reduced --reduced" (ArgumentConflict ∷ []) = refl in
    let reduced_check : Refuses "pgn_tool check --reduced" (UnknownArgument ∷ []) = refl in
    let reduced_list : Refuses "pgn_tool list --reduced" (UnknownArgument ∷ []) = refl in
    let help : Refuses "pgn_tool --help" (DisplayHelp ∷ []) = refl in
    let export_help : Refuses "pgn_tool export --help" (DisplayHelp ∷ []) = refl in
    let version : Refuses "pgn_tool --version" (DisplayVersion ∷ []) = refl in
    let other : Refuses "pgn_tool convert" (UnknownArgument ∷ InvalidSubcommand ∷ []) = refl in
    let splits : Asks "pgn_tool split games" (splitting (codes "games") None) = (refl, refl) in
    let splits_a_file : Asks "pgn_tool split games a.pgn" (splitting (codes "games") (Some (codes "a.pgn"))) = (refl, refl) in
    let split_alone : Refuses "pgn_tool split" (MissingRequiredArgument ∷ []) = refl in
    tt
