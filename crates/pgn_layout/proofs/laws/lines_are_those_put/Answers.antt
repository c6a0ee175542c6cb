use Rattle.pgn_layout.proofs.PutsInTurn.{lines_are_those_put}
use Rattle.pgn_layout.proofs.laws.lines_are_those_put.Goals as goal

pub returns : goal.returns
returns c = lines_are_those_put
