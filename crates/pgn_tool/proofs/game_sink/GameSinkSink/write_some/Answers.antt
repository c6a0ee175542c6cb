use Rattle.pgn_tool.proofs.Words.{arith, common_steps}
use Rattle.pgn_tool.proofs.splitting.BytesOfFile.{has_more, known_made, made_first}
use Rattle.pgn_tool.proofs.game_sink.GameSinkSink.write_some.Goals as goal

pub invariant_of-self-in-Ok : goal.invariant_of-self-in-Ok
invariant_of-self-in-Ok g c = grind (arith, common_steps, made_first, has_more, known_made)
