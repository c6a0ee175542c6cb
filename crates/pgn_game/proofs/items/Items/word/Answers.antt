use Rattle.pgn_game.proofs.giving.CurrentFitsInMemory.{items_fit_current}
use Rattle.pgn_game.proofs.items.Items.word.Goals as goal

pub word-requires : goal.word-requires
word-requires g c = search items_fit_current
