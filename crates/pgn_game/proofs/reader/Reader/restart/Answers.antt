use Rattle.pgn_game.proofs.Words.{first_position, rules}
use Rattle.pgn_game.proofs.reader.Reader.restart.Goals as goal

pub returns : goal.returns
unfolding first_position
returns g c = search rules
