use Rattle.pgn_tool.proofs.Words.{◌≡◌, None, true, most_left, ListedSoFar}
use Rattle.pgn_tool.proofs.list.list_games.Given as goal

abbrev pub invariant-loop-fault : goal.invariant-loop-fault
invariant-loop-fault g l =
    record {
      fault : l.games.converter.fault ≡ None;
      silent : l.games.converter.reading.writing.is_silent ≡ true;
      source : g.R.Source.failures l.source ≡ g.R.Source.failures l.fn.source;
      sink : g.O.Sink.failures l.out ≡ g.O.Sink.failures l.fn.out;
      read : ListedSoFar (g.R.Source.left l.fn.source) (g.R.Source.left l.source) l.games (g.O.Sink.taken l.fn.out) (g.O.Sink.taken l.out);
    }

abbrev pub decreases-loop-fault : goal.decreases-loop-fault
decreases-loop-fault g l = most_left l.games
