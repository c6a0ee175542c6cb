use Rattle.pgn_arguments.proofs.Words.{common_steps, arith}
use Rattle.pgn_arguments.specs.CommandLine.{file_rule}
use Rattle.pgn_arguments.proofs.commands.BuilderSteps.{rule_help, rule_value_name}
use Rattle.pgn_arguments.proofs.arguments.file_argument.Goals as goal

pub returns-clause-rule : goal.returns-clause-rule
unfolding file_rule
returns-clause-rule c = grind (arith, common_steps, rule_help, rule_value_name)
