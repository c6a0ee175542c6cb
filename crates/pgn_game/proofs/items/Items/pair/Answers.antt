use Rattle.pgn_game.proofs.giving.CurrentFitsInMemory.{items_fit_current}
use Rattle.pgn_game.proofs.items.Items.pair.Goals as goal

pub pair-requires : goal.pair-requires
pair-requires g c = search items_fit_current
