use Rattle.pgn_game.proofs.Words.{arith}
use Rattle.pgn_game.proofs.giving.CurrentFitsInMemory.{items_alike}
use Rattle.pgn_game.proofs.items.Items.new.Goals as goal

pub begin_at-requires : goal.begin_at-requires
begin_at-requires g c = (search items_alike, (c.requires, omega arith))
