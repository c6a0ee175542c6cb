-- **Definition**: the command line of the program, as `clap` sees it.
--
--     pgn_tool export [--reduced] [--checked] [FILE]
--     pgn_tool check [FILE]
--     pgn_tool list [FILE]
--     pgn_tool split DIR [FILE]
--
-- `clap` adds `--help` to each command, and `--version` to the program, which has a version.
use Rattle.std.specs.Prelude.{codes, Some, true}
use Rattle.clap.specs.Words.{App, Rule, new_app, new_rule, with_rule, with_subcommand}
use Rattle.clap.specs.Simple.{on_top}
use Rattle.clap.specs.declared.builder.action.ArgAction.TheVariants.{SetTrue}

-- `[FILE]`
unfoldable pub file_rule : Rule
file_rule = record (new_rule (codes "file")) { value_names = 1 }

-- `[--reduced]`
unfoldable pub reduced_rule : Rule
reduced_rule = record (new_rule (codes "reduced")) {
  long = Some (codes "reduced");
  action = Some SetTrue;
}

-- `[--checked]`: `clap` accepts it without FILE, and the program rejects that
unfoldable pub checked_rule : Rule
checked_rule = record (new_rule (codes "checked")) {
  long = Some (codes "checked");
  action = Some SetTrue;
}

unfoldable pub export_command : App
export_command =
    with_rule (with_rule (with_rule (new_app (codes "export")) reduced_rule) checked_rule) file_rule

unfoldable pub check_command : App
check_command = with_rule (new_app (codes "check")) file_rule

unfoldable pub list_command : App
list_command = with_rule (new_app (codes "list")) file_rule

-- `DIR`
unfoldable pub dir_rule : Rule
dir_rule = record (new_rule (codes "dir")) {
  value_names = 1;
  required = true;
}

unfoldable pub split_command : App
split_command = with_rule (with_rule (new_app (codes "split")) dir_rule) file_rule

-- the program before its subcommands: it wants one, and help is asked for by `--help` alone
unfoldable pub bare_program : App
bare_program = on_top (λ s. record s {
  has_version = true;
  disable_help_subcommand = true;
  subcommand_required = true;
}) (new_app (codes "pgn_tool"))

unfoldable pub command_line : App
command_line =
    with_subcommand (with_subcommand (with_subcommand (with_subcommand bare_program
    export_command.top) check_command.top) list_command.top) split_command.top
