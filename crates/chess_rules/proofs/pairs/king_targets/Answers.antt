use Rattle.chess_rules.proofs.Words.{arith}
use Rattle.chess_rules.proofs.trying.SetsToPairs.{colour_places, steps_are}
use Rattle.chess_rules.proofs.pairs.king_targets.Goals as goal

pub returns : goal.returns
returns c = grind (arith, steps_are, colour_places)
