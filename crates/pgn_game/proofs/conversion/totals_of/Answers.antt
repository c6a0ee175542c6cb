use Rattle.pgn_game.proofs.ReaderFitsInMemory.{fits_alike}
use Rattle.pgn_game.proofs.conversion.totals_of.Goals as goal

pub games-requires : goal.games-requires
games-requires g c = search fits_alike

pub plies_of_finished_games-requires : goal.plies_of_finished_games-requires
plies_of_finished_games-requires g c = (search fits_alike, c.requires.no_fault)

pub most_probes-requires : goal.most_probes-requires
most_probes-requires g c = search fits_alike

pub returns-clause-games : goal.returns-clause-games
returns-clause-games g c = c.games.ensures

pub returns-clause-plies : goal.returns-clause-plies
returns-clause-plies g c = c.plies_of_finished_games.ensures

pub returns-clause-probes : goal.returns-clause-probes
returns-clause-probes g c = c.most_probes.ensures.value

pub returns-clause-bound : goal.returns-clause-bound
returns-clause-bound g c = c.most_probes.ensures.bound
