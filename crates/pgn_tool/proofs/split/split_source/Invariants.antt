use Rattle.pgn_tool.proofs.Words.{◌≡◌, None, false, most_left, SplitSoFar}
use Rattle.pgn_tool.proofs.split.split_source.Given as goal

abbrev pub invariant-loop : goal.invariant-loop
invariant-loop g l =
    record {
      fault : l.games.converter.fault ≡ None;
      writes : l.games.converter.reading.writing.is_silent ≡ false;
      source : g.R.Source.failures l.source ≡ g.R.Source.failures l.fn.source;
      split : SplitSoFar (g.R.Source.left l.fn.source) (g.R.Source.left l.source) l.games (g.F.GameFiles.log l.fn.files) (g.F.GameFiles.log l.files);
    }

abbrev pub decreases-loop : goal.decreases-loop
decreases-loop g l = most_left l.games
