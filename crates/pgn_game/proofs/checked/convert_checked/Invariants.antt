use Rattle.pgn_game.proofs.Words.{◌≡◌, ◌-◌, checked_profile, ◌^◌, BothSoFar, IsGoing, true, false}
use Rattle.pgn_game.proofs.checked.convert_checked.Given as goal

abbrev pub invariant-loop-marker : goal.invariant-loop-marker
invariant-loop-marker g l =
    record {
      first_going : IsGoing l.ahead.converter;
      second_going : IsGoing l.behind.converter;
      first_silent : l.ahead.converter.reading.writing.is_silent ≡ true;
      second_writes : l.behind.converter.reading.writing.is_silent ≡ false;
      first : g.Q.Source.failures l.first ≡ g.Q.Source.failures l.fn.first;
      second : g.R.Source.failures l.second ≡ g.R.Source.failures l.fn.second;
      sink : g.W.Sink.failures l.writer ≡ g.W.Sink.failures l.fn.writer;
      both : BothSoFar (checked_profile g.row.T (g.row.L - 1) l.fn.mode) (g.Q.Source.left l.fn.first)
          (g.Q.Source.left l.first) (g.R.Source.left l.fn.second) (g.R.Source.left l.second)
          l.ahead l.behind (g.W.Sink.taken l.fn.writer) (g.W.Sink.taken l.writer);
    }

abbrev pub decreases-loop-marker : goal.decreases-loop-marker
decreases-loop-marker g l = 2 ^ 64 - l.ahead.converter.games
