use Rattle.pgn_tool.proofs.Words.{checking, listing}
use Rattle.pgn_tool.proofs.runs.ConversionToRun.{runs_answers}
use Rattle.pgn_tool.proofs.stream.run_stream.Goals as goal

pub returns-in-Export-clause-runs : goal.returns-in-Export-clause-runs
returns-in-Export-clause-runs g c = rw c.in-Export.is (rw c.export_mode.ensures at c.export.ensures.runs)

pub returns-in-Export-clause-answers : goal.returns-in-Export-clause-answers
returns-in-Export-clause-answers g c = λ s smooth. runs_answers s _ _ smooth _ _ _ _ (returns-in-Export-clause-runs g c)

pub returns-in-Check-clause-answers : goal.returns-in-Check-clause-answers
returns-in-Check-clause-answers g c = λ s smooth. rw c.in-Check.is (runs_answers s _ _ smooth _ _ checking _ c.check.ensures.runs)

pub returns-in-List-clause-answers : goal.returns-in-List-clause-answers
returns-in-List-clause-answers g c = λ s smooth. rw c.in-List.is (runs_answers s _ _ smooth _ _ listing _ c.list.ensures.runs)
