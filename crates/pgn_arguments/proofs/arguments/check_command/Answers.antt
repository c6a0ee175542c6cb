use Rattle.pgn_arguments.proofs.Words.{common_steps, arith, ap₂, with_rule}
use Rattle.pgn_arguments.specs.CommandLine.{check_command}
use Rattle.pgn_arguments.proofs.commands.BuilderSteps.{app_about}
use Rattle.pgn_arguments.proofs.arguments.check_command.Goals as goal

pub returns : goal.returns
unfolding check_command
returns c = grind (arith, common_steps, app_about, ap₂ with_rule)
