use Rattle.pgn_game.proofs.giving.CurrentFitsInMemory.{items_fit_current}
use Rattle.pgn_game.proofs.items.Items.position.Goals as goal

pub position-requires : goal.position-requires
position-requires g c = search items_fit_current
