use Rattle.pgn_tool.proofs.Words.{◌≡◌, vec_len, vec_capacity, Keeps, append_known}
use Rattle.pgn_tool.proofs.standard.StandardOutput.write_out.Given as goal

-- What was taken stays, and no call has failed.
abbrev pub invariant-loop-self : goal.invariant-loop-self
invariant-loop-self g l = record {
  bytes : Keeps (append_known (g.W.Write.contents l.fn.self.outlet.writer) l.fn.self.buffer.items)
      (append_known (g.W.Write.contents l.self.outlet.writer) l.self.buffer.items);
  failures : l.self.outlet.failures ≡ l.fn.self.outlet.failures;
  capacity : vec_capacity l.self.buffer ≡ vec_capacity l.fn.self.buffer;
}

abbrev pub decreases-loop-self : goal.decreases-loop-self
decreases-loop-self g l = vec_len l.self.buffer
