use Rattle.pgn_game.proofs.giving.CurrentFitsInMemory.{archive_fits_items}
use Rattle.pgn_game.proofs.archive_items.ArchiveItems.take_marker_for_missing_result.Goals as goal

pub take_marker_for_missing_result-requires : goal.take_marker_for_missing_result-requires
take_marker_for_missing_result-requires g c = search archive_fits_items
