use Rattle.pgn_game.proofs.giving.ItemsJoined.{given_grows}
use Rattle.pgn_game.proofs.laws.given_grows.Goals as goal

pub returns : goal.returns
returns c = given_grows
