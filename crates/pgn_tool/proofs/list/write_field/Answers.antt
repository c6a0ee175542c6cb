use Rattle.pgn_layout.proofs.OneWriteMore.{Writes-append}
use Rattle.pgn_tool.proofs.list.write_field.Goals as goal

pub returns-clause-written : goal.returns-clause-written
returns-clause-written g c = Writes-append _ _ _ _ _ c.write_all-2.result c.in_ok-write_all.ensures.bytes c.write_all-2.ensures.bytes
