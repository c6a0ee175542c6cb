-- Where a converter fits in memory, its game does; where games or a reading fit, their converter
-- does.
use Rattle.pgn_game.proofs.Words.{rules, arith, ℕ, ◌+◌, ◌<◌, ◌≤◌, FitsInMemory, RattleType}
use prog.Memory.{up}
use Rattle.pgn_game.specs.contracts.converter.Converter.{the_row}
use Rattle.pgn_game.specs.contracts.checked.Reading.{the_row as reading_row}
use Rattle.pgn_game.specs.contracts.games.Games.{the_row as games_row}
use Rattle.pgn_game.specs.contracts.game.Game.{the_row as game_row}
use Rattle.pgn_game.specs.contracts.reader.Reader.{the_row as reader_row}

le_up : (a n : ℕ) → n ≤ up a n
le_up a n = search rules

-- the parts of a size that fits do
pub first : (a n k m : ℕ) → up a (n + k) < m → n < m
first a n k m fits = omega (arith, fits, le_up a (n + k))

pub second : (a n k m : ℕ) → up a (k + n) < m → n < m
second a n k m fits = omega (arith, fits, le_up a (k + n))

module _ (T L : RattleType) where
  pub fits_game : FitsInMemory (the_row T L) → FitsInMemory (game_row T L)
  fits_game fits = second _ _ _ _ (first _ _ _ _ (first _ _ _ _ (first _ _ _ _ (first _ _ _ _ fits))))

  -- a converter of the same bounds fits too
  pub fits_alike : FitsInMemory (the_row T L) → FitsInMemory (the_row T L)
  fits_alike fits = fits

  -- and so does a game, and a reader
  pub game_alike : FitsInMemory (game_row T L) → FitsInMemory (game_row T L)
  game_alike fits = fits

  pub reader_alike : FitsInMemory (reader_row T L) → FitsInMemory (reader_row T L)
  reader_alike fits = fits

  -- where games fit, their converter does
  pub games_fit_converter : FitsInMemory (games_row T L) → FitsInMemory (the_row T L)
  games_fit_converter fits = second _ _ _ _ (first _ _ _ _ fits)

  -- and where a reading does
  pub reading_fits_converter : FitsInMemory (reading_row T L) → FitsInMemory (the_row T L)
  reading_fits_converter fits = second _ _ _ _ (first _ _ _ _ (first _ _ _ _ fits))
