use Rattle.chess_text.proofs.Words.{is_some, arith, common_steps}
use Rattle.chess_text.proofs.keys.EnPassant.{taken_from}
use Rattle.chess_text.proofs.key.takes_from.Goals as goal

pub returns-clause-takes : goal.returns-clause-takes
returns-clause-takes c = grind (arith, common_steps, is_some, taken_from)
