use Rattle.chess_tests.proofs.rules.candidates.+count_plies.Given as goal

abbrev pub decreases-count_plies : goal.decreases-count_plies
decreases-count_plies l = l.plies
