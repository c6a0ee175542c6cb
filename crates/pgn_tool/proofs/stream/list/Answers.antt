use Rattle.pgn_tool.proofs.Words.{◌≡◌, ◌∙◌, ap, refl, inl, inr, Err, Refused, Unwritten, arith, common_steps}
use Rattle.pgn_tool.proofs.runs.ConversionToRun.{concludes_flushed, flushed_after, flushes_last, list_blames, lists_on, risen}
use Rattle.pgn_tool.proofs.stream.list.Goals as goal

pub returns-in-Ok : goal.returns-in-Ok
returns-in-Ok g c = grind (arith, common_steps, lists_on, flushes_last, concludes_flushed, flushed_after)

pub returns-in-Err-Refused : goal.returns-in-Err-Refused
returns-in-Err-Refused g c =
    let flush = c.flush-flushed in
    let list = c.list_games-answer in
    let f = c.in-Err-Refused.fault in
    let is : list.result ≡ Err (Refused f) = c.in-Err-Refused.is ∙ ap (λ s. Err s) (rw c.in-Err-Refused.is at c.in-Err-Refused.field-0-is) in
    let counted = rw is at list.ensures.counted in
    record {
      runs = record {
        answer = Err (Refused f);
        lists = lists_on _ _ _ _ _ flush.ensures.bytes (Err (Refused f)) (rw is at list.ensures.lists);
        counted = (_, counted, flushes_last flush.result _ _ _ flush.ensures.failures flush.ensures.flushed);
        ends = record {
          ends = c.refuse.ensures.status;
          told = c.refuse.ensures.told;
          blames = list_blames f.reason _ _ counted.0;
        };
      };
      flushed = flushed_after flush.result _ _ _ _ _ (inl counted.1) flush.ensures.failures flush.ensures.flushed (λ ill. c.refuse.ensures.status);
    }

pub returns-in-Err-Unwritten : goal.returns-in-Err-Unwritten
returns-in-Err-Unwritten g c =
    let flush = c.flush-flushed in
    let list = c.list_games-answer in
    let told = c.conclude-in-Err-Unwritten.ensures in
    let is : list.result ≡ Err Unwritten = c.in-Err-Unwritten.is ∙ ap (λ s. Err s) (rw c.in-Err-Unwritten.is at c.in-Err-Unwritten.field-0-is) in
    let counted = rw is at list.ensures.counted in
    record {
      runs = record {
        answer = Err Unwritten;
        lists = lists_on _ _ _ _ _ flush.ensures.bytes (Err Unwritten) (rw is at list.ensures.lists);
        counted = (_, counted, flushes_last flush.result _ _ _ flush.ensures.failures flush.ensures.flushed);
        ends = record { ends = told.status; failed = risen flush.result _ _ _ counted.1 flush.ensures.failures; told = told.told refl };
      };
      flushed = flushed_after flush.result _ _ _ _ _ (inr counted.1) flush.ensures.failures flush.ensures.flushed (λ ill. told.status);
    }
