use Rattle.pgn_game.proofs.giving.CurrentFitsInMemory.{items_fit_current}
use Rattle.pgn_game.proofs.items.Items.depth.Goals as goal

pub depth-requires : goal.depth-requires
depth-requires g c = search items_fit_current
