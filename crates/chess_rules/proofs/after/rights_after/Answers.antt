use Rattle.chess_rules.proofs.Words.{arith}
use Rattle.chess_rules.proofs.moves.LegalToPosition.{rights_stay}
use Rattle.chess_rules.proofs.after.rights_after.Goals as goal

pub returns-then-not-has-2 : goal.returns-then-not-has-2
returns-then-not-has-2 c = grind (arith, rights_stay)
