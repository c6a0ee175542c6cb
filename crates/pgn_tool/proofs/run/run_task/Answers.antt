use Rattle.pgn_tool.proofs.Words.{inl, refl, opened}
use Rattle.pgn_tool.proofs.runs.FileToRun.{missing_told, opened_is, unopened_is}
use Rattle.pgn_tool.proofs.run.run_task.Goals as goal

pub returns-in-Ok-clause-carries : goal.returns-in-Ok-clause-carries
returns-in-Ok-clause-carries g c =
    let run = c.run_opened.ensures in
    record { runs = opened _ (opened_is _ _ _ _ _ c.in-Ok.is c.open_file.ensures) run.runs; low = run.low; flushed = run.flushed }

pub returns-in-Err-clause-carries : goal.returns-in-Err-clause-carries
returns-in-Err-clause-carries g c =
    record {
      runs = unopened_is _ _ _ _ _ refl (rw c.in-Err.is at c.open_file.ensures) (refl, refl) refl (refl, refl) c.refuse_file.ensures.ends;
      low = c.refuse_file.ensures.status;
      flushed = inl;
    }

pub returns-in-Ok-clause-missing : goal.returns-in-Ok-clause-missing
returns-in-Ok-clause-missing g c = λ name named gone. missing_told _ _ _ name named gone (returns-in-Ok-clause-carries g c).runs

pub returns-in-Err-clause-missing : goal.returns-in-Err-clause-missing
returns-in-Err-clause-missing g c = λ name named gone. missing_told _ _ _ name named gone (returns-in-Err-clause-carries g c).runs
