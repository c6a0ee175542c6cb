use Rattle.pgn_arguments.proofs.Words.{common_steps, arith, first_value-rows}
use Rattle.pgn_arguments.proofs.commands.SubcommandToRequest.{text_read}
use Rattle.pgn_arguments.proofs.arguments.dir_of.Goals as goal

pub returns : goal.returns
returns c = grind (arith, common_steps, text_read, first_value-rows)
