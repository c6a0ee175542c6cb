use Rattle.pgn_game.proofs.exporting.ExportAgain as export_again
use Rattle.pgn_game.proofs.laws.export_is_kept.Goals as goal

pub returns-clause-slice : goal.returns-clause-slice
returns-clause-slice c = export_again.slice_is_kept c.fixed_point.ensures

pub returns-clause-source : goal.returns-clause-source
returns-clause-source c = export_again.source_is_kept c.fixed_point.ensures
