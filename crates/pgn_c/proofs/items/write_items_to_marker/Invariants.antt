use Rattle.pgn_c.proofs.Words.{items_ahead, WritesSoFar}
use Rattle.pgn_c.proofs.items.write_items_to_marker.Given as goal

abbrev pub invariant-loop-fault : goal.invariant-loop-fault
invariant-loop-fault l = WritesSoFar l.fn.fields l.fn.first l.fn.items l.fn.source.left.now l.fn.buffer l.buffer l.items l.source.left.now l.lines

abbrev pub decreases-loop-fault : goal.decreases-loop-fault
decreases-loop-fault l = items_ahead l.items
