use Rattle.pgn_game.proofs.Words.{Ok, false, length, ◌-◌, ◌+◌, ◌*◌, sink_of, waiting, KeepsSilence}
use Rattle.pgn_game.specs.steps.Flow.{ReadsIn}
use Rattle.pgn_game.proofs.converter.Converter.feed_front.Given as goal

abbrev pub invariant-loop-at : goal.invariant-loop-at
invariant-loop-at g l =
    record {
      reads : ReadsIn l.fn.self l.piece l.self l.at (Ok false) (sink_of l.fn.self.reading g.W.Sink.taken g.W.Sink.failures l.fn.out l.out);
      silent : KeepsSilence l.fn.self.reading l.self.reading l.fn.out l.out;
    }

abbrev pub decreases-loop-at : goal.decreases-loop-at
decreases-loop-at g l = 3 * (length l.piece - l.at) + waiting l.self.lexer
