use Rattle.chess_text.proofs.names.UciToMove.{answer_is_legal}
use Rattle.chess_text.proofs.uci.read_uci.Goals as goal

pub returns-in-Some-clause-legal : goal.returns-in-Some-clause-legal
returns-in-Some-clause-legal c = answer_is_legal c.args.position.now c.in-Some.mv _ (cc)
