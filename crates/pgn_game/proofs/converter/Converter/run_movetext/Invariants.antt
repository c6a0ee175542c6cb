use Rattle.pgn_game.proofs.Words.{◌≡◌, ◌-◌, false, Ok, length, sink_of, KeepsSilence, InMovetext}
use Rattle.pgn_game.specs.steps.Flow.{ReadsIn}
use Rattle.pgn_game.proofs.converter.Converter.run_movetext.Given as goal

-- what was read so far, in movetext
abbrev pub invariant-loop-used : goal.invariant-loop-used
invariant-loop-used g l = record {
  stage : l.self.reading.stage ≡ InMovetext;
  reads : ReadsIn l.fn.self l.piece l.self l.used (Ok false) (sink_of l.fn.self.reading g.W.Sink.taken g.W.Sink.failures l.fn.out l.out);
  silent : KeepsSilence l.fn.self.reading l.self.reading l.fn.out l.out;
}

abbrev pub decreases-loop-used : goal.decreases-loop-used
decreases-loop-used g l = length l.piece - l.used
