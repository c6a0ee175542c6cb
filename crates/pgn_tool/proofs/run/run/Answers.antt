use Rattle.pgn_tool.proofs.runs.FileToRun.{ran_answer}
use Rattle.pgn_tool.proofs.run.run.Goals as goal

pub returns-in-Ok-clause-ran : goal.returns-in-Ok-clause-ran
returns-in-Ok-clause-ran g c =
    rw c.in-Ok.is
    (rw c.as_slice.ensures.value at (ran_answer _ _ _ _ c.parse-answer.ensures.task c.parse-answer.ensures.refusal c.run_answer.ensures.runs))
