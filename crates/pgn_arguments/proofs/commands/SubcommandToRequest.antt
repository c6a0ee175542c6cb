-- The subcommand that a parse meets, and the request that it makes.
use Rattle.pgn_arguments.proofs.Words.{common_steps, arith, ◌≡◌, ◌≢◌, ◌∙◌, ◌||◌, ap, ap₂, Bool, true, false, true≢false, refl, sym, List, [], ◌∷◌, Option, Some, None, option_map, codes, bytes_eq, IsSome, find, is_some, unwrap_or, list_all, option_map_or, and_parts, App, HasMatchesOf, IsParsedFrom, ReadsOne, Row, Shape, Text, app_of, built, has_subcommand, is_simple, subcommand_name_of, subcommand_of, subcommand_rows_of, entered, rows_at, is_simple_and_free, Command, ArgMatches, request_named}
use Rattle.std.specs.Str.Parse.{ParsesBool}
use Rattle.std.proofs.lemmas.Slice.Eq.{bytes_eq-Decides}
use Rattle.clap.proofs.OnLiterals.{clap_on_literals}
use Rattle.pgn_arguments.specs.CommandLine.{bare_program, check_command, checked_rule, command_line, dir_rule, export_command, file_rule, list_command, reduced_rule, split_command}
use Rattle.pgn_arguments.specs.Requests.{request_from}
use Rattle.pgn_arguments.proofs.commands.BuilderSteps.{is_local}

unfoldable pub whole_line : Unit {0}
unfolding clap_on_literals command_line bare_program export_command check_command
    list_command split_command reduced_rule checked_rule file_rule dir_rule
whole_line = tt

-- ---- the command line is one whose matches and refusals `clap` defines

pub line_is_simple : is_simple command_line ≡ true
unfolding whole_line
line_is_simple = refl

pub line_is_free : is_simple_and_free command_line ≡ true
unfolding whole_line
line_is_free = refl

pub line_is_plain : command_line.top.is_plain ≡ true
unfolding whole_line
line_is_plain = refl

pub line_wants_subcommand : command_line.top.subcommand_required ≡ true
unfolding whole_line
line_wants_subcommand = refl

-- ---- a subcommand that is met is one that makes a request

abbrev is_known : Text → Bool
is_known name = bytes_eq name (codes "export") || (bytes_eq name (codes "check") || (bytes_eq name (codes "list") || bytes_eq name (codes "split")))

known_request : (name : Text) (rows : List Row) → is_known name ≡ true → IsSome (request_named name rows)
known_request name rows known = grind (arith, common_steps)

abbrev asked : List Text → Option Shape → Option (Text × List Row)
asked words = option_map (λ s. rows_at s words)

found_is_known : (subs : List Shape) (test : Shape → Bool) (words : List Text) → list_all (λ s. is_known s.name) subs ≡ true
    → is_some (asked words (find test subs)) ≡ true → IsSome (request_from (asked words (find test subs)))
unfolding request_from
found_is_known [] test words known met = absurd (true≢false (sym met))
found_is_known (s ∷ rest) test words known met = grind (arith, common_steps, known_request, and_parts, found_is_known rest test words)

entered_is_known : (a : App) (stop : Option (Text × List Text)) → list_all (λ s. is_known s.name) a.subs ≡ true
    → is_some (entered a stop) ≡ true → IsSome (request_from (entered a stop))
entered_is_known a None known met = absurd (true≢false (sym met))
entered_is_known a (Some p) known met = found_is_known a.subs _ p.1 known met

line_is_known : list_all (λ s. is_known s.name) (built command_line).subs ≡ true
unfolding whole_line
line_is_known = refl

words_are_known : (words : List Text) → is_some (subcommand_of command_line words) ≡ true
    → IsSome (request_from (subcommand_of command_line words))
words_are_known words met = entered_is_known (built command_line) _ line_is_known met

-- ---- a parse that succeeds meets one

is_met : (m : ArgMatches) → is_some (subcommand_rows_of m) ≡ has_subcommand m
is_met m = grind (arith, common_steps)

pub rows_met : (c : Command) (words : List Text) (m : ArgMatches) → app_of c ≡ command_line → HasMatchesOf (app_of c) words m
    → subcommand_rows_of m ≡ subcommand_of command_line words
rows_met c words m line matches = grind (arith, common_steps, line_is_simple)

pub meets_known : (c : Command) (words : List Text) (m : ArgMatches) → app_of c ≡ command_line → HasMatchesOf (app_of c) words m
    → IsParsedFrom c m → IsSome (request_from (subcommand_rows_of m))
meets_known c words m line matches parsed =
    let rows = rows_met c words m line matches in
    let wants = parsed.from.needs_subcommand ∙ ap (λ (a : App). a.top.subcommand_required) line ∙ line_wants_subcommand in
    let local = parsed.from.globals ∙ is_local c command_line line line_is_plain in
    let met = (parsed.parsed local).checked.subcommand wants in
    rw rows (words_are_known words (ap is_some (sym rows) ∙ is_met m ∙ met))

-- ---- what `subcommand` tells of the one that was met

names_met : (m : ArgMatches) → subcommand_name_of m ≡ option_map (λ p. p.0) (subcommand_rows_of m)
names_met m = grind (arith, common_steps, option_map)

request_of_pair : (o : Option (Text × List Row)) (name : Text) (rows : List Row) → Some name ≡ option_map (λ p. p.0) o
    → Some rows ≡ option_map (λ p. p.1) o → request_from o ≡ request_named name rows
unfolding request_from
request_of_pair o name rows h1 h2 = grind (arith, common_steps, true≢false, ap₂)

pub request_met : (m : ArgMatches) (name other : Text) (rows : List Row) → Some name ≡ subcommand_name_of m
    → Some rows ≡ option_map (λ p. p.1) (subcommand_rows_of m) → name ≡ other → request_from (subcommand_rows_of m) ≡ request_named other rows
request_met m name other rows is_name is_rows same = grind (arith, common_steps, request_of_pair, names_met)

none_asks : (o : Option (Text × List Row)) → None ≡ option_map (λ p. p.0) o → IsSome (request_from o) → ⊥
unfolding request_from
none_asks o h1 h2 = grind (arith, common_steps, true≢false)

pub none_met : (m : ArgMatches) → None ≡ subcommand_name_of m → IsSome (request_from (subcommand_rows_of m)) → ⊥
none_met m is_name known = none_asks (subcommand_rows_of m) (is_name ∙ names_met m) known

pub no_other : (name : Text) (rows : List Row) → name ≢ codes "export" → name ≢ codes "check" → name ≢ codes "list"
    → name ≢ codes "split" → IsSome (request_named name rows) → ⊥
no_other name rows not_export not_check not_list not_split known = grind (arith, common_steps, bytes_eq-Decides, true≢false)

-- ---- a flag

is_true : (text : Text) → text ≢ codes "true" → bytes_eq text (codes "true") ≡ false
is_true text differs = grind (arith, common_steps, bytes_eq-Decides)

pub flag_read : (E : Type 0) (text : Option Text) (read : Option Bool) → (text ≡ None → read ≡ None)
    → ((t : Text) → text ≡ Some t → ReadsOne (ParsesBool {E = E}) t read) → unwrap_or read false
    ≡ option_map_or (λ t. bytes_eq t (codes "true")) text false
flag_read E None read none value = ap (λ r. unwrap_or r false) (none refl)
flag_read E (Some t) read none value = go read (value t refl)
  where
    go : (r : Option Bool) → ReadsOne (ParsesBool {E = E}) t r → unwrap_or r false ≡ bytes_eq t (codes "true")
    go r h1 = grind (arith, common_steps, is_true)

-- ---- a value, or nothing

pub text_read : {B : Type 0} (text : B → Text) (o : Option B) (other : B) (given : Option Text) → option_map text o ≡ given
    → text (unwrap_or o other) ≡ unwrap_or given (text other)
text_read text o other given h1 = grind (arith, common_steps)
