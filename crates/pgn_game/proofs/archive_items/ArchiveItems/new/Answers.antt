use Rattle.pgn_game.proofs.Words.{arith}
use Rattle.pgn_game.proofs.giving.CurrentFitsInMemory.{archive_alike}
use Rattle.pgn_game.proofs.archive_items.ArchiveItems.new.Goals as goal

pub begin_at-requires : goal.begin_at-requires
begin_at-requires g c = (search archive_alike, (c.requires, omega arith))
