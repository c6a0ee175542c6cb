-- What most proofs name.
pub use Rattle.clap.proofs.WalkLemmas.{first_value-rows, one_text-rows}
pub use Rattle.clap.specs.Faults.{is_simple_and_free}
pub use Rattle.clap.specs.Simple.{app_of_fields, on_top, entered, rows_at}
pub use Rattle.clap.specs.Words.{with_rule, App, app_of, with_subcommand, rule_of, found_of, fault_of, Row, Text, first_of, rows_of, subcommand_name_of, subcommand_rows_of, IsAmong, Kinds, HasMatchesOf, IsParsedFrom, ReadsOne, Shape, built, has_subcommand, is_simple, subcommand_of}
pub use Rattle.clap.specs.declared.builder.command.Command.{Command}
pub use Rattle.clap.specs.declared.error.kind.ErrorKind.{ErrorKind}
pub use Rattle.clap.specs.declared.error.kind.ErrorKind.TheVariants.{OutOfMemory, ArgumentConflict, DisplayHelp, DisplayVersion, InvalidSubcommand, MissingRequiredArgument, MissingSubcommand, UnknownArgument}
pub use Rattle.clap.specs.declared.parser.matches.ArgMatches.{ArgMatches}
pub use Rattle.pgn_arguments.specs.Requests.{export_request, request_from, check, is_given, listing, splitting, AnswersBy, AnswersError, LacksFile, Request, refusals, request_in, request_named, checked, export}
pub use Rattle.std.proofs.Common.{arith, ap₂, ◌≡◌, ◌∙◌, refl, ap, true, rules, false, Option, Some, option_map, string_bytes, String, Global, Bool, codes, bytes_eq, sym, subst, map, List, true≢false, inl, inr, ◌⊎◌, [], ◌∷◌, ◌≢◌, ◌||◌, None, ◌++◌}
pub use Rattle.std.proofs.lemmas.Bool.{and_parts, not-true, or_left, or_right}
pub use Rattle.std.proofs.lemmas.Grind.{common_steps}
pub use Rattle.std.proofs.lemmas.Result.{IfOk-weaker}
pub use Rattle.std.specs.List.{list_any, list_all}
pub use Rattle.std.specs.Option.{option_map_or}
pub use Rattle.std.specs.Prelude.{ℕ, Err, IfErr, Result, IsSome, find, is_some, unwrap_or, ◌==◌, if◌then◌else◌}
