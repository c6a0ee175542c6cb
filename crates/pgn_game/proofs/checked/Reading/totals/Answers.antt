use Rattle.pgn_game.proofs.Words.{ap, ◌∙◌, Reading}
use Rattle.pgn_game.proofs.ReaderFitsInMemory.{reading_fits_converter}
use Rattle.pgn_game.proofs.checked.Reading.totals.Goals as goal

pub games-requires : goal.games-requires
games-requires g c = search reading_fits_converter

pub plies_of_finished_games-requires : goal.plies_of_finished_games-requires
plies_of_finished_games-requires g c =
    (search reading_fits_converter, ap (λ (r : Reading). r.converter.fault) c.self.view_is ∙ c.requires.going.no_fault)

pub most_probes-requires : goal.most_probes-requires
most_probes-requires g c = search reading_fits_converter

pub returns-clause-games : goal.returns-clause-games
returns-clause-games g c = rw (← c.self.view_is) c.games.ensures

pub returns-clause-plies : goal.returns-clause-plies
returns-clause-plies g c = rw (← c.self.view_is) c.plies_of_finished_games.ensures
