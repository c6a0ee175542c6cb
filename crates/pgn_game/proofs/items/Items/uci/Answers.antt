use Rattle.pgn_game.proofs.giving.CurrentFitsInMemory.{items_fit_current}
use Rattle.pgn_game.proofs.items.Items.uci.Goals as goal

pub uci-requires : goal.uci-requires
uci-requires g c = search items_fit_current
