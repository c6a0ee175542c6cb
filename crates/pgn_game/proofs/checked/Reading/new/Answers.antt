use Rattle.pgn_game.proofs.Words.{◌-◌, profile_of}
use Rattle.pgn_game.proofs.ReaderFitsInMemory.{reading_fits_converter}
use Rattle.pgn_game.proofs.twice.SourceToReading.{given_none}
use Rattle.pgn_game.proofs.checked.Reading.new.Goals as goal

pub new-converter-requires : goal.new-converter-requires
new-converter-requires g c = (search reading_fits_converter, c.requires)

pub let_missing_result_take_marker-requires : goal.let_missing_result_take_marker-requires
let_missing_result_take_marker-requires g c = search reading_fits_converter

pub returns-clause-given : goal.returns-clause-given
returns-clause-given g c = λ left.
    given_none (profile_of g.row.T (g.row.L - 1) c.args.mode) c.new-converter.result c.let_missing_result_take_marker.new.self c.new.result left
    c.new-converter.ensures.stands c.let_missing_result_take_marker.ensures c.new.ensures
