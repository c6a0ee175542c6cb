use Rattle.pgn_game.proofs.giving.CurrentFitsInMemory.{items_fit_current}
use Rattle.pgn_game.proofs.items.Items.san.Goals as goal

pub san-requires : goal.san-requires
san-requires g c = (search items_fit_current, c.requires)
