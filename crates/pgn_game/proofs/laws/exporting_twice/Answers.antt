use Rattle.pgn_game.proofs.exporting.ExportAgain as export_again
use Rattle.pgn_game.proofs.laws.exporting_twice.Goals as goal

pub returns-clause-twice : goal.returns-clause-twice
returns-clause-twice c = export_again.exporting_twice c.unique_reading.ensures c.tokens_rise.ensures c.fixed_point.ensures

pub returns-clause-same : goal.returns-clause-same
returns-clause-same c = export_again.same_output c.unique_reading.ensures c.tokens_rise.ensures c.same_text.ensures
