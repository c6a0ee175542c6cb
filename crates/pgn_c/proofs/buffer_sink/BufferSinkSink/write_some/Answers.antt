use Rattle.pgn_c.proofs.Words.{length, arith, common_steps}
use Rattle.pgn_c.proofs.MoreBytesBehind.{length_with, drop_with}
use Rattle.pgn_c.proofs.buffer_sink.BufferSinkSink.write_some.Goals as goal

pub invariant_of-self-else-count-eq0 : goal.invariant_of-self-else-count-eq0
invariant_of-self-else-count-eq0 g c = grind (arith, common_steps, length, length_with, drop_with)
