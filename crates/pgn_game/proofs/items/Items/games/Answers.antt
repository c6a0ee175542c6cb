use Rattle.pgn_game.proofs.giving.CurrentFitsInMemory.{items_fit_current}
use Rattle.pgn_game.proofs.items.Items.games.Goals as goal

pub games-requires : goal.games-requires
games-requires g c = search items_fit_current
