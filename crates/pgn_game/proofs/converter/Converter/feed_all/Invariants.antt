use Rattle.pgn_game.proofs.Words.{◌≡◌, ◌≤◌, ◌+◌, ◌-◌, ◌*◌, length, waiting, IsGoing, IsStill, sink_of, KeepsSilence, FeedsAllSoFar}
use Rattle.pgn_game.proofs.converter.Converter.feed_all.Given as goal

abbrev pub invariant-loop-used : goal.invariant-loop-used
invariant-loop-used g l =
    record {
      within : l.at ≤ length l.piece;
      count : l.self.lexer.count ≡ l.fn.self.lexer.count + l.at;
      going : IsGoing l.self;
      counted : IsStill (sink_of l.fn.self.reading g.W.Sink.taken g.W.Sink.failures l.fn.out l.out);
      silent : KeepsSilence l.fn.self.reading l.self.reading l.fn.out l.out;
      feeds : FeedsAllSoFar l.fn.self l.piece l.at l.self (sink_of l.fn.self.reading g.W.Sink.taken g.W.Sink.failures l.fn.out l.out);
    }

abbrev pub decreases-loop-used : goal.decreases-loop-used
decreases-loop-used g l = 2 * (length l.initial.piece - l.at) + waiting l.self.lexer
