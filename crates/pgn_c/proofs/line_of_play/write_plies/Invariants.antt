use Rattle.pgn_c.proofs.Words.{length, line_ahead}
use Rattle.pgn_c.proofs.PlyLines.{PutSoFar}
use Rattle.pgn_c.proofs.line_of_play.write_plies.Given as goal

abbrev pub invariant-loop-at : goal.invariant-loop-at
invariant-loop-at l = PutSoFar l.fn.fields (line_ahead l.fn.line) (line_ahead l.line) l.fn.buffer l.buffer l.written l.plies

abbrev pub decreases-loop-at : goal.decreases-loop-at
decreases-loop-at l = length l.line.words
