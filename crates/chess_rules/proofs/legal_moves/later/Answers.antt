use Rattle.chess_rules.proofs.Words.{arith}
use Rattle.chess_rules.specs.Tries.{with_later, pending_tries}
use Rattle.chess_rules.proofs.legal_moves.later.Goals as goal

pub returns-in-None : goal.returns-in-None
unfolding with_later pending_tries
returns-in-None c = grind arith

pub returns : goal.returns
unfolding with_later pending_tries
returns c = grind arith
