use Rattle.std.proofs.Common.{length}
use Rattle.chess_tests.proofs.rules.perft.count_promotions.Given as goal

abbrev pub decreases-loop-played : goal.decreases-loop-played
decreases-loop-played l = length l.moves
