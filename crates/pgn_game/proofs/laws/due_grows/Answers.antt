use Rattle.pgn_game.proofs.stepping.OneMoreToken.{due_grows}
use Rattle.pgn_game.proofs.laws.due_grows.Goals as goal

pub returns : goal.returns
returns c = due_grows
