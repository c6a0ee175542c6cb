use Rattle.pgn_game.proofs.Words.{◌≡◌, take, Appends, text_by, other_line}
use Rattle.pgn_game.proofs.section.write_pairs.Given as goal

abbrev pub invariant-loop-index : goal.invariant-loop-index
invariant-loop-index g l =
    (g.W.Sink.failures l.out ≡ g.W.Sink.failures l.fn.out)
    × Appends (g.W.Sink.taken l.fn.out) (g.W.Sink.taken l.out) (text_by (other_line l.has_fen) (take l.index l.pairs))
