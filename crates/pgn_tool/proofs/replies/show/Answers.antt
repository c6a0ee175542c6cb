use Rattle.pgn_tool.proofs.runs.ConversionToRun.{flushed_well}
use Rattle.pgn_tool.proofs.replies.show.Goals as goal

pub returns-clause-flushed : goal.returns-clause-flushed
returns-clause-flushed g c = flushed_well c.write_last-is_written.result _ _ _ _ c.conclude.ensures.status c.write_last-is_written.ensures.flushed
