use Rattle.pgn_arguments.proofs.Words.{common_steps, arith}
use Rattle.pgn_arguments.specs.CommandLine.{dir_rule, split_command}
use Rattle.pgn_arguments.proofs.commands.BuilderSteps.{app_about, rule_help, rule_required, rule_value_name}
use Rattle.pgn_arguments.proofs.arguments.split_command.Goals as goal

pub returns : goal.returns
unfolding split_command dir_rule
returns c = grind (arith, common_steps, app_about, rule_help, rule_required, rule_value_name)
