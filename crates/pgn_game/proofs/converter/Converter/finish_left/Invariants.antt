use Rattle.pgn_game.proofs.Words.{◌≡◌, ◌≤◌, None, Ok, true, false, IsStill, sink_of, KeepsSilence}
use Rattle.pgn_game.specs.steps.Flow.{ReadsOn, steps_left}
use Rattle.pgn_game.proofs.flow.AtEnd.{Holds}
use Rattle.pgn_game.proofs.converter.Converter.finish_left.Given as goal

abbrev pub invariant-loop-self : goal.invariant-loop-self
invariant-loop-self g l =
    record {
      no_fault : l.self.fault ≡ None;
      count : l.self.lexer.count ≡ l.fn.self.lexer.count;
      probes : l.fn.self.reading.most_probes ≤ l.self.reading.most_probes;
      counted : IsStill (sink_of l.fn.self.reading g.W.Sink.taken g.W.Sink.failures l.fn.out l.out);
      silent : KeepsSilence l.fn.self.reading l.self.reading l.fn.out l.out;
      holds : Holds l.fn.self.games l.self;
      only : l.fn.to_game ≡ true → l.self.games ≡ l.fn.self.games;
      reads : ReadsOn l.fn.self None l.self (Ok false)
          (sink_of l.fn.self.reading g.W.Sink.taken g.W.Sink.failures l.fn.out l.out);
    }

abbrev pub decreases-loop-self : goal.decreases-loop-self
decreases-loop-self g l = steps_left l.self
