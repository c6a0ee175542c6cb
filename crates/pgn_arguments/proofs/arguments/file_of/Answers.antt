use Rattle.pgn_arguments.proofs.Words.{common_steps, arith, first_value-rows}
use Rattle.pgn_arguments.proofs.arguments.file_of.Goals as goal

pub returns-in_ok-from_str-in-Some : goal.returns-in_ok-from_str-in-Some
returns-in_ok-from_str-in-Some c = grind (arith, common_steps, first_value-rows)

pub returns-in-None : goal.returns-in-None
returns-in-None c = grind (arith, common_steps, first_value-rows)
