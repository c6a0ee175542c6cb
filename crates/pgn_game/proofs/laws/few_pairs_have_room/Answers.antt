use Rattle.pgn_game.proofs.exporting.ExportAgain as export_again
use Rattle.pgn_game.proofs.laws.few_pairs_have_room.Goals as goal

pub returns : goal.returns
returns c = export_again.few_pairs_have_room
