use Rattle.pgn_game.proofs.giving.CurrentFitsInMemory.{items_fit_current}
use Rattle.pgn_game.proofs.items.Items.tag.Goals as goal

pub tag-requires : goal.tag-requires
tag-requires g c = search items_fit_current
