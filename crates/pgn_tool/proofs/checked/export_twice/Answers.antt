use Rattle.pgn_tool.proofs.Words.{◌∙◌, inl, refl, Err, Ok, device, profile_twice}
use Rattle.pgn_tool.proofs.runs.ConversionToRun.{concludes_flushed, flushed_after, flushes_last}
use Rattle.pgn_tool.proofs.runs.CheckedConversionToRun.{blames_twice_of, converts_twice_on, counted_once_of_two}
use Rattle.pgn_tool.proofs.checked.export_twice.Goals as goal

pub returns-in-Ok : goal.returns-in-Ok
returns-in-Ok g c =
    let counted = c.in-Ok.ensures.counted in
    let flush = c.flush-flushed in
    let first = device g.Q.Source.left g.Q.Source.failures c.args.first.now c.convert_checked-answer.new.first in
    let second = device g.R.Source.left g.R.Source.failures c.args.second.now c.convert_checked-answer.new.second in
    let converted = device g.O.Sink.taken g.O.Sink.failures c.args.out.now c.convert_checked-answer.new.writer in
    record {
      runs = record {
        answer = Ok c.in-Ok.field-0;
        works = converts_twice_on (profile_twice c.args.mode) first second converted _ _ flush.ensures.bytes
            (Ok c.in-Ok.field-0) c.in-Ok.ensures.converts;
        counted =
            record { converted = converted; failures = refl; conversion = counted; flush = flushes_last flush.result _ _ _ flush.ensures.failures flush.ensures.flushed };
        ends = (
          concludes_flushed g.E.Sink.taken g.E.Sink.failures _ _ flush.result c.is_ok.result
              _ _ _ _ c.is_ok.ensures.value counted.0 counted.2 flush.ensures.failures
              c.conclude.ensures.status c.conclude.ensures.untouched c.conclude.ensures.told,
          counted.1,
        );
      };
      flushed =
          flushed_after flush.result _ _ _ _ _ (inl counted.2) flush.ensures.failures flush.ensures.flushed
          (λ ill. rw (c.is_ok.ensures.value ∙ ill) at c.conclude.ensures.status);
    }

pub returns-in-Err : goal.returns-in-Err
returns-in-Err g c =
    let counted = c.in-Err.ensures.counted in
    let flush = c.flush-flushed in
    let reason = c.in-Err.fault.reason in
    let first = device g.Q.Source.left g.Q.Source.failures c.args.first.now c.convert_checked-answer.new.first in
    let second = device g.R.Source.left g.R.Source.failures c.args.second.now c.convert_checked-answer.new.second in
    let converted = device g.O.Sink.taken g.O.Sink.failures c.args.out.now c.convert_checked-answer.new.writer in
    record {
      runs = record {
        answer = Err c.in-Err.fault;
        works = converts_twice_on (profile_twice c.args.mode) first second converted _ _ flush.ensures.bytes
            (Err c.in-Err.fault) c.in-Err.ensures.converts;
        counted =
            record { converted = converted; failures = refl; conversion = counted; flush = flushes_last flush.result _ _ _ flush.ensures.failures flush.ensures.flushed };
        ends = record {
          ends = c.refuse.ensures.status;
          told = c.refuse.ensures.told;
          blames = blames_twice_of reason flush.result first second converted _ _ counted flush.ensures.failures;
        };
      };
      flushed =
          flushed_after flush.result _ _ _ _ _
          (counted_once_of_two reason first second converted counted) flush.ensures.failures flush.ensures.flushed
          (λ ill. c.refuse.ensures.status);
    }
