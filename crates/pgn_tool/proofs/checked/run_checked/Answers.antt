use Rattle.pgn_tool.proofs.Words.{refl}
use Rattle.pgn_tool.proofs.runs.CheckedConversionToFront.{front_written}
use Rattle.pgn_tool.proofs.runs.CheckedConversionToRun.{same_answers, twice_answers, twice_ends}
use Rattle.pgn_tool.proofs.checked.run_checked.Goals as goal

pub returns-clause-runs : goal.returns-clause-runs
returns-clause-runs g c = rw c.in-Checked.is (rw c.export_mode.ensures at c.export_twice.ensures.runs)

pub returns-clause-answers : goal.returns-clause-answers
returns-clause-answers g c = λ s r one other. twice_answers s r _ _ _ one other _ _ _ _ (returns-clause-runs g c)

pub returns-clause-same : goal.returns-clause-same
returns-clause-same g c =
    λ s one other. same_answers _ s _ _ _ c.equal_readings.ensures (twice_answers s s _ _ _ one other _ _ _ _ (returns-clause-runs g c))

pub returns-clause-front : goal.returns-clause-front
returns-clause-front g c =
    λ s one other. let runs = returns-clause-runs g c in
    front_written c.decided_is_prefix.ensures c.due_grows.ensures c.equal_readings.ensures
    c.interrupted_readings.ensures _ refl s _ _ _ one other runs.answer runs.works

pub returns-clause-status : goal.returns-clause-status
returns-clause-status g c = (twice_ends c.export_mode.result _ _ _ _ _ _ c.export_twice.ensures.runs).0

pub returns-clause-first_kept : goal.returns-clause-first_kept
returns-clause-first_kept g c = λ zero. ((twice_ends c.export_mode.result _ _ _ _ _ _ c.export_twice.ensures.runs).1 zero).0

pub returns-clause-second_kept : goal.returns-clause-second_kept
returns-clause-second_kept g c = λ zero. ((twice_ends c.export_mode.result _ _ _ _ _ _ c.export_twice.ensures.runs).1 zero).1

pub returns-clause-out_kept : goal.returns-clause-out_kept
returns-clause-out_kept g c = λ zero. ((twice_ends c.export_mode.result _ _ _ _ _ _ c.export_twice.ensures.runs).1 zero).2
