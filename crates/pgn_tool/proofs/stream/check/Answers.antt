use Rattle.pgn_tool.proofs.Words.{arith, common_steps}
use Rattle.pgn_tool.proofs.runs.ConversionToRun.{concludes_as, flushed_after, flushed_well, flushes_last, silent_blames, tells_as}
use Rattle.pgn_tool.proofs.stream.check.Goals as goal

pub returns-in-Ok : goal.returns-in-Ok
returns-in-Ok g c = grind (arith, common_steps, tells_as, concludes_as, flushed_well)

pub returns-in-Err : goal.returns-in-Err
returns-in-Err g c = grind (arith, common_steps, flushes_last, silent_blames, flushed_after)
