use Rattle.pgn_game.proofs.twice.CountingToTaking as counting_to_taking
use Rattle.pgn_game.proofs.laws.missing_results.Goals as goal

pub returns : goal.returns
returns c = counting_to_taking.missing_results
