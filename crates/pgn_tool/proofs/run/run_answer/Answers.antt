use Rattle.pgn_tool.proofs.run.run_answer.Goals as goal

pub returns-in-Ok : goal.returns-in-Ok
returns-in-Ok g c =
    let run = c.run_task.ensures.carries in
    record { runs = rw c.in-Ok.is run.runs; low = run.low; flushed = run.flushed }
