use Rattle.std.proofs.Common.{length}
use Rattle.chess_tests.proofs.rules.perft.+perft.Given as goal

abbrev pub decreases-perft : goal.decreases-perft
decreases-perft l = l.plies

abbrev pub decreases-loop-played : goal.decreases-loop-played
decreases-loop-played l = length l.moves
