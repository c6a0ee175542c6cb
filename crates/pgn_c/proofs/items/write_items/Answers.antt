use Rattle.pgn_c.proofs.Words.{rules, length, take_rest}
use Rattle.pgn_c.proofs.TextAhead.{length_from}
use Rattle.pgn_c.proofs.items.write_items.Goals as goal

pub returns : goal.returns
returns c = search (rules, take_rest, length_from, length)
