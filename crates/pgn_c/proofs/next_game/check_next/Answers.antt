use Rattle.pgn_c.proofs.Words.{subst, ConvertsNext, profile_counting}
use Rattle.pgn_c.proofs.MarkerTaken.{takes_marker}
use Rattle.pgn_c.proofs.SecondReading as second
use Rattle.pgn_c.proofs.next_game.check_next.Goals as goal

pub returns-then-found-eq-OK : goal.returns-then-found-eq-OK
returns-then-found-eq-OK c =
    let read = c.read_by_marker-found in
    let taken = c.marker_of_number-marker.result in record {
      found = read.result;
      reads = read.ensures.next;
      not_full = read.ensures.not_full;
      is_game = λ ok marker is.
          subst (λ m. ConvertsNext (profile_counting c.args.mode m) c.args.text.now c.args.from c.args.buffer.now c.convert_next.new.buffer c.convert_next.result)
          (c.marker_of_number-marker.ensures marker is) c.convert_next.ensures;
      takes = takes_marker c.missing_results.ensures c.args.mode taken c.args.text.now c.args.from
          c.args.buffer.now c.convert_next.new.buffer c.convert_next.result c.convert_next.ensures;
      converts = λ ok. second.converts c.missing_results.ensures c.args.mode taken c.args.text.now c.args.from read.result read.ensures.next
          ok c.marker_of_number-marker.ensures c.args.buffer.now c.convert_next.new.buffer c.convert_next.result
          c.convert_next.ensures c.requires.within;
      not_found = λ other. absurd (other c.if-found-eq-OK.true);
    }
