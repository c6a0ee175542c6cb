use Rattle.pgn_game.proofs.Words.{◌≡◌, None, [], Profile, Stands, IsStill, KeepsSilence, bytes_seen, sink_of, ReadSoFar, games_of, most_left}
use Rattle.pgn_game.proofs.conversion.convert_all.Given as goal

abbrev pub invariant-loop : goal.invariant-loop
invariant-loop g l =
    record {
      fault : l.converter.fault ≡ None;
      source : g.R.Source.failures l.reader ≡ g.R.Source.failures l.fn.reader;
      sink : IsStill (sink_of l.fn.converter.reading g.W.Sink.taken g.W.Sink.failures l.fn.writer l.writer);
      silent : KeepsSilence l.fn.converter.reading l.converter.reading l.fn.writer l.writer;
      read : (p : Profile) → Stands p l.fn.converter [] None [] → ReadSoFar p (g.R.Source.left l.fn.reader)
          (g.R.Source.left l.reader) (games_of l.converter l.buffer)
          (bytes_seen l.fn.converter.reading.writing.is_silent (g.W.Sink.taken l.fn.writer))
          (bytes_seen l.fn.converter.reading.writing.is_silent (g.W.Sink.taken l.writer));
    }

abbrev pub decreases-loop : goal.decreases-loop
decreases-loop g l = most_left (games_of l.converter l.buffer)
