use Rattle.pgn_game.proofs.Words.{rules}
use Rattle.pgn_game.proofs.stepping.WholeInput.{is_short_slice}
use Rattle.pgn_game.proofs.conversion.convert_slice.Goals as goal

pub convert_text-requires : goal.convert_text-requires
convert_text-requires g c = (c.requires.memory, record { not_finished = c.new-converter.ensures.not_finished; no_fault = c.new-converter.ensures.stands.has_read.no_fault })

pub returns : goal.returns
returns g c = search (rules, is_short_slice)
