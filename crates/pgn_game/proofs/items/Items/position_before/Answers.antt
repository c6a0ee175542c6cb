use Rattle.pgn_game.proofs.giving.CurrentFitsInMemory.{items_fit_current}
use Rattle.pgn_game.proofs.items.Items.position_before.Goals as goal

pub position_before-requires : goal.position_before-requires
position_before-requires g c = search items_fit_current
