use Rattle.pgn_game.proofs.Words.{rules}
use Rattle.pgn_game.proofs.reading.RunsToEnd.{kinds, runs_as_read}
use Rattle.pgn_game.proofs.reading.GrammarToReading.{games_run}
use Rattle.pgn_game.proofs.reading.ReadingToGrammar.{games_spelled}
use Rattle.pgn_game.proofs.laws.unique_reading.Goals as goal

pub returns : goal.returns
returns c = search (rules, runs_as_read, games_run, kinds, games_spelled)
