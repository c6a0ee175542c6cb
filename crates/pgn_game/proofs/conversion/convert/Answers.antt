use Rattle.pgn_game.proofs.Words.{rules}
use Rattle.pgn_game.proofs.stepping.WholeInput.{is_short}
use Rattle.pgn_game.proofs.conversion.convert.Goals as goal

pub convert_all-requires : goal.convert_all-requires
convert_all-requires g c = (c.requires.memory, record { not_finished = c.new-converter.ensures.not_finished; no_fault = c.new-converter.ensures.stands.has_read.no_fault })

pub returns : goal.returns
returns g c = search (rules, is_short)

pub new-converter-requires : goal.new-converter-requires
new-converter-requires g c = (c.requires.memory, c.requires.levels)
