use Rattle.pgn_game.proofs.Words.{◌≡◌, take, Appends, missing_of, known_result, roster_line, text_by, roster}
use Rattle.pgn_game.proofs.section.write_roster.Given as goal

abbrev pub invariant-loop-index : goal.invariant-loop-index
invariant-loop-index g l =
    (g.W.Sink.failures l.out ≡ g.W.Sink.failures l.fn.out) × Appends (g.W.Sink.taken l.fn.out) (g.W.Sink.taken l.out)
    (text_by (roster_line l.pairs) (take l.index (roster (known_result (missing_of l.missing_result)))))
