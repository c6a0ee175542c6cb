-- Where the game whose items are given fits in memory, its reader does.
use Rattle.pgn_game.proofs.Words.{FitsInMemory, RattleType}
use Rattle.pgn_game.specs.contracts.archive_items.ArchiveItems.{the_row as archive_row}
use Rattle.pgn_game.specs.contracts.current_game.CurrentGame.{the_row}
use Rattle.pgn_game.specs.contracts.items.Items.{the_row as items_row}
use Rattle.pgn_game.specs.contracts.reader.Reader.{the_row as reader_row}
use Rattle.pgn_game.proofs.ReaderFitsInMemory.{first, second}

pub current_fits_reader : (T L : RattleType) → FitsInMemory (the_row T L) → FitsInMemory (reader_row T L)
current_fits_reader T L fits = second _ _ _ _ (first _ _ _ _ (first _ _ _ _ (first _ _ _ _ (first _ _ _ _ fits))))

pub items_fit_current : (T L : RattleType) → FitsInMemory (items_row T L) → FitsInMemory (the_row T L)
items_fit_current T L fits = second _ _ _ _ (first _ _ _ _ (first _ _ _ _ (first _ _ _ _ fits)))

pub archive_fits_items : (T L : RattleType) → FitsInMemory (archive_row T L) → FitsInMemory (items_row T L)
archive_fits_items T L fits = second _ _ _ _ (first _ _ _ _ (first _ _ _ _ fits))

-- items of an archive of the same bounds fit too
pub archive_alike : (T L : RattleType) → FitsInMemory (archive_row T L) → FitsInMemory (archive_row T L)
archive_alike T L fits = fits

-- and items of the same bounds
pub items_alike : (T L : RattleType) → FitsInMemory (items_row T L) → FitsInMemory (items_row T L)
items_alike T L fits = fits

-- and so does the current game
pub current_alike : (T L : RattleType) → FitsInMemory (the_row T L) → FitsInMemory (the_row T L)
current_alike T L fits = fits
