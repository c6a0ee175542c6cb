use Rattle.pgn_game.proofs.ReaderFitsInMemory.{reading_fits_converter}
use Rattle.pgn_game.proofs.twice.GamesOfReadings.{silent_reading}
use Rattle.pgn_game.proofs.checked.Reading.write_nothing.Goals as goal

pub write_nothing-requires : goal.write_nothing-requires
write_nothing-requires g c = search reading_fits_converter

pub returns-clause-given : goal.returns-clause-given
returns-clause-given g c = λ q left_old left has.
    silent_reading q left_old left _ c.write_nothing.new.self c.write_nothing.ensures.only_switch (rw (← c.self.view_is) at has)
