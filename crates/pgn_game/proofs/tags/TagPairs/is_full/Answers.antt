use Rattle.pgn_game.proofs.Words.{nat_tests, rules}
use Rattle.pgn_game.proofs.pairs.StoredPlaces.{held-count}
use Rattle.pgn_game.proofs.tags.TagPairs.is_full.Goals as goal

pub returns-clause-full : goal.returns-clause-full
returns-clause-full g c = search (rules, held-count, nat_tests)

pub returns-clause-room : goal.returns-clause-room
returns-clause-room g c = search (rules, held-count)
