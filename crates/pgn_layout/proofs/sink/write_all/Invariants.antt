use Rattle.pgn_layout.proofs.Words.{◌≡◌, ◌-◌, ◌≤◌, length, take, Appends}
use Rattle.pgn_layout.proofs.sink.write_all.Given as goal

abbrev pub invariant-loop-written : goal.invariant-loop-written
invariant-loop-written g l =
    (l.written ≤ length l.bytes) × (g.W.Sink.failures l.out ≡ g.W.Sink.failures l.fn.out)
    × Appends (g.W.Sink.taken l.fn.out) (g.W.Sink.taken l.out) (take l.written l.bytes)

abbrev pub decreases-loop-written : goal.decreases-loop-written
decreases-loop-written g l = length l.initial.bytes - l.written
