use Rattle.pgn_tool.proofs.Words.{ℕ, List, Option, Result, Device, FileStep, Unsplit, CountsSplit, EndsSplit, RunsSplit, SplitFiles, SplitResult, arith, common_steps}
use Rattle.pgn_tool.proofs.split.split_to.Goals as goal

runs_by : {before after : Option (List FileStep)} {source err : Device} {status : ℕ} (answer : Result Unit Unsplit)
    → SplitFiles before after answer → SplitResult source.before source.after answer before after
    → CountsSplit answer source.failures source.failures_after → EndsSplit answer err status → RunsSplit before after source err status
runs_by answer files splits counted ends = record { answer = answer; files = files; splits = splits; counted = counted; ends = ends }

pub returns-in-Ok-clause-runs : goal.returns-in-Ok-clause-runs
returns-in-Ok-clause-runs g c = grind (arith, common_steps, runs_by)

pub returns-in-Err-Refused-clause-runs : goal.returns-in-Err-Refused-clause-runs
returns-in-Err-Refused-clause-runs g c = grind (arith, common_steps, runs_by)

pub returns-in-Err-NoMemory-clause-runs : goal.returns-in-Err-NoMemory-clause-runs
returns-in-Err-NoMemory-clause-runs g c = grind (arith, common_steps, runs_by)
