use Rattle.pgn_game.proofs.Words.{rules}
use Rattle.pgn_game.proofs.stepping.PairsTriedSilently.{tries_few, tries_fewer}
use Rattle.pgn_game.proofs.laws.silent_readings.Goals as goal

pub returns : goal.returns
returns c = search (rules, tries_few, tries_fewer)
