use Rattle.pgn_tool.proofs.Words.{Err, arith, common_steps}
use Rattle.pgn_tool.proofs.runs.ConversionToRun.{blames_of, concludes_flushed, converts_on, counted_once, flushed_after, flushes_last}
use Rattle.pgn_tool.proofs.stream.export.Goals as goal

pub returns-in-Ok : goal.returns-in-Ok
returns-in-Ok g c = grind (arith, common_steps, converts_on, flushes_last, concludes_flushed, flushed_after)

pub returns-in-Err : goal.returns-in-Err
returns-in-Err g c =
    let flush = c.flush-flushed in
    let counted = c.in-Err.ensures.counted in
    let reason = c.in-Err.fault.reason in
    record {
      runs = record {
        answer = Err c.in-Err.fault;
        works = converts_on _ _ _ _ _ flush.ensures.bytes _ (Err c.in-Err.fault) c.in-Err.ensures.converts;
        counted = (_, counted, flushes_last flush.result _ _ _ flush.ensures.failures flush.ensures.flushed);
        ends = record {
          ends = c.refuse.ensures.status;
          told = c.refuse.ensures.told;
          blames = blames_of reason flush.result _ _ _ counted flush.ensures.failures;
        };
      };
      flushed =
          flushed_after flush.result _ _ _ _ _ (counted_once reason _ _ _ _ counted) flush.ensures.failures flush.ensures.flushed
          (λ ill. c.refuse.ensures.status);
    }
