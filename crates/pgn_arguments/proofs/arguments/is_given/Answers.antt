use Rattle.pgn_arguments.proofs.Words.{◌∙◌, ap, codes, false, bytes_eq, option_map_or, found_of, one_text-rows, rules}
use Rattle.pgn_arguments.proofs.commands.SubcommandToRequest.{flag_read}
use Rattle.pgn_arguments.proofs.arguments.is_given.Goals as goal

pub returns : goal.returns
returns c = search (rules, flag_read, codes, one_text-rows)
