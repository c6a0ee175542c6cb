use Rattle.std.proofs.lemmas.Grind.{common_steps}
use Rattle.std.proofs.Common.{arith}
use Rattle.pgn_tool.proofs.runs.ConversionToRun.{front_on, writes_last}
use Rattle.pgn_tool.proofs.stream.write_last.Goals as goal

pub returns-then-is_ok-clause-front : goal.returns-then-is_ok-clause-front
returns-then-is_ok-clause-front g c = front_on c.write_all-written.result _ _ _ _ c.write_all-written.ensures.bytes c.flush-flushed.ensures.bytes

pub returns-then-is_ok-clause-last : goal.returns-then-is_ok-clause-last
returns-then-is_ok-clause-last g c = grind (arith, common_steps, writes_last)
