use Rattle.pgn_game.proofs.giving.CurrentFitsInMemory.{archive_fits_items}
use Rattle.pgn_game.proofs.archive_items.ArchiveItems.games.Goals as goal

pub games-requires : goal.games-requires
games-requires g c = search archive_fits_items
