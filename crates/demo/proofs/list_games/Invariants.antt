use Rattle.pgn_game.specs.public.GamesCalls.{most_left}
use Rattle.demo.proofs.list_games.Given as goal

abbrev pub decreases-loop-fault : goal.decreases-loop-fault
decreases-loop-fault g l = most_left l.games
