use Rattle.pgn_game.proofs.giving.CurrentFitsInMemory.{items_fit_current}
use Rattle.pgn_game.proofs.items.Items.refused_position.Goals as goal

pub last_position-requires : goal.last_position-requires
last_position-requires g c = search items_fit_current
