use Rattle.pgn_game.proofs.giving.CurrentFitsInMemory.{archive_fits_items}
use Rattle.pgn_game.proofs.archive_items.ArchiveItems.begin_at.Goals as goal

pub begin_at-requires : goal.begin_at-requires
begin_at-requires g c = (search archive_fits_items, (c.requires.levels, c.requires.place))
