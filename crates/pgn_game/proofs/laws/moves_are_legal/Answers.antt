use Rattle.pgn_game.proofs.putting.PlayedMovesAreLegal.{moves_legal}
use Rattle.pgn_game.proofs.laws.moves_are_legal.Goals as goal

pub returns : goal.returns
returns c = moves_legal c.the_one_move_is_read.ensures
