-- Where a reader fits in memory, its tag pairs and its levels do; where a game does, its reader
-- does.
use Rattle.pgn_game.proofs.Words.{FitsInMemory, RattleType}
use Rattle.pgn_game.specs.contracts.reader.Reader.{the_row}
use Rattle.pgn_game.specs.contracts.tags.TagPairs.{the_row as tags_row}
use Rattle.pgn_game.specs.contracts.levels.Levels.{the_row as levels_row}
use Rattle.pgn_game.specs.contracts.game.Game.{the_row as game_row}
use Rattle.pgn_game.proofs.ReaderFitsInMemory.{first, second}

pub tags_fit : (T L : RattleType) → FitsInMemory (the_row T L) → FitsInMemory (tags_row T)
tags_fit T L fits =
    second _ _ _ _ (first _ _ _ _ (first _ _ _ _ (first _ _ _ _ (first _ _ _ _ (first _ _ _ _ (first _ _ _ _ (first _ _ _ _ (first _ _ _ _ fits))))))))

pub text_fits : (T L : RattleType) → FitsInMemory (the_row T L) → FitsInMemory (levels_row L)
text_fits T L fits = second _ _ _ _ (first _ _ _ _ (first _ _ _ _ (first _ _ _ _ (first _ _ _ _ (first _ _ _ _ (first _ _ _ _ (first _ _ _ _ fits)))))))

pub reader_fits : (T L : RattleType) → FitsInMemory (game_row T L) → FitsInMemory (the_row T L)
reader_fits T L fits = second _ _ _ _ (first _ _ _ _ fits)
