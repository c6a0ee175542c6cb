use Rattle.pgn_game.proofs.giving.CurrentFitsInMemory.{items_fit_current}
use Rattle.pgn_game.proofs.items.Items.write_tags.Goals as goal

pub write_tags-requires : goal.write_tags-requires
write_tags-requires g c = search items_fit_current
