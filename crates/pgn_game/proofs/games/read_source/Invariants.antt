use Rattle.pgn_game.proofs.Words.{◌≡◌, ◌+◌, ◌-◌, ◌^◌, ◌≤◌, length, device, sink_of, IsGoing, IsStill, KeepsSilence, games_of}
use Rattle.pgn_game.specs.steps.SourceFlow.{ReadsSince}
use Rattle.pgn_game.proofs.games.read_source.Given as goal

abbrev pub invariant-loop-used : goal.invariant-loop-used
invariant-loop-used g l =
    record {
      going : IsGoing l.converter;
      games : l.converter.games ≡ l.fn.converter.games;
      grows : l.fn.converter.lexer.count ≤ l.converter.lexer.count;
      probes : l.fn.converter.reading.most_probes ≤ l.converter.reading.most_probes;
      source : g.R.Source.failures l.source ≡ g.R.Source.failures l.fn.source;
      sink : IsStill (sink_of l.fn.converter.reading g.W.Sink.taken g.W.Sink.failures l.fn.out l.out);
      silent : KeepsSilence l.fn.converter.reading l.converter.reading l.fn.out l.out;
      given : ReadsSince (games_of l.fn.converter l.fn.buffer) (games_of l.converter l.buffer)
          (device g.R.Source.left g.R.Source.failures l.fn.source l.source)
          (sink_of l.fn.converter.reading g.W.Sink.taken g.W.Sink.failures l.fn.out l.out);
    }

abbrev pub decreases-loop-used : goal.decreases-loop-used
decreases-loop-used g l = (2 ^ 62 + 4096) - (l.converter.lexer.count + length l.buffer)
