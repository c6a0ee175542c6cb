use Rattle.pgn_tool.proofs.Words.{Some, inl, refl, string_bytes, opened_again, unopened_again}
use Rattle.pgn_tool.specs.Devices.{reading}
use Rattle.pgn_tool.proofs.runs.FileToRun.{opened_is}
use Rattle.pgn_tool.proofs.run.run_to_output.Goals as goal

pub returns-in-Ok : goal.returns-in-Ok
returns-in-Ok g c =
    let run = c.run_both.ensures in
    let seen = reading g.I.Source g.I.Input c.args.devices.now.second c.run_both.new.devices.second in
    let name = string_bytes c.in-Checked.file in
    let again = opened_is (Some name) (g.I.Source.left c.open.new.self) (g.I.Source.failures c.open.new.self) seen _ c.in-Ok.is
    (rw c.as_str.ensures.value at c.open.ensures) in
    record {
      runs = rw c.in-Checked.is (opened_again _ again (rw c.in-Checked.is at run.runs.0), run.runs.1);
      low = run.low;
      flushed = run.flushed;
    }

pub returns-in-Err : goal.returns-in-Err
returns-in-Err g c =
    let refused = rw c.in-Err.is at (rw c.as_str.ensures.value at c.open.ensures) in
    record {
      runs = rw c.in-Checked.is (unopened_again _ refused.0 (refl, refl) refused.1 (refl, refl) c.refuse_file.ensures.ends, refl);
      low = c.refuse_file.ensures.status;
      flushed = inl;
    }
