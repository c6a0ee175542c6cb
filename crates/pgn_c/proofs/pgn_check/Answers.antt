use Rattle.pgn_c.proofs.Words.{arith, common_steps}
use Rattle.pgn_c.proofs.ConversionToBuffer.{never_full, when_ok}
use Rattle.pgn_c.proofs.pgn_check.Goals as goal

pub returns : goal.returns
returns c = grind (arith, common_steps, never_full, when_ok)
