-- **Definition**: the law of a text that is converted from the end of a game on.
-- Letters: p is the profile, u the text up to the end of a game, s what comes after it.
use Rattle.std.specs.Prelude.{◌≡◌, ℕ, ◌+◌, false, List, [], ◌∷◌, ◌++◌, length, map, sum, None}
use Rattle.pgn_lexer.specs.Tokens.{Token, EndsAt}
use Rattle.pgn_lexer.specs.TokensOf.{tokens_of}
use Rattle.pgn_lexer.specs.WhiteSpace.{white_space}
use Rattle.pgn_game.specs.games.Profile.{Profile}
use Rattle.pgn_game.specs.games.Game.{Game}
use Rattle.pgn_game.specs.games.Levels.{plies_of}
use Rattle.pgn_game.specs.export.Text.{text_of}
use Rattle.pgn_game.specs.games.Progress.{read, output, Verdict, refused, totals, verdict}

-- the games that tokens are read into
abbrev pub games_read : Profile → List Token → List Game
games_read p ts = (read p ts).progress.games

-- These tokens and the marker are read without a fault, and the marker finishes the game.
pub record FinishesGame (p : Profile) (given : List Token) (marker : Token) : Type 0 where
  pub passes : (read p (given ++ marker ∷ [])).fault ≡ None
  pub game : Game
  pub one_more : games_read p (given ++ marker ∷ []) ≡ games_read p given ++ game ∷ []

-- the verdict on the rest of a text, with the games before it counted too; a fault stays as it is
abbrev pub counting_also : List Game → Verdict → Verdict
counting_also games (refused f) = refused f
counting_also games (totals more) =
    totals (record { games = length games + more.games; plies = sum (map plies_of games) + more.plies })

-- The text u ++ s is read on from the end of u, where the earlier games end. Its games are these
-- and those of the rest, and its output is their text and the output of the rest. Its verdict is
-- that of the rest, with these games counted. In the rest white space is in the place of u.
pub record ReadsOnBehind (p : Profile) (u s : List ℕ) (earlier : List Game) : Type 0 where
  pub same_games : games_read p (tokens_of (u ++ s))
      ≡ earlier ++ games_read p (tokens_of (white_space (length u) false ++ s))
  pub same_output : output p (u ++ s)
      ≡ text_of p earlier ++ output p (white_space (length u) false ++ s)
  pub same_verdict : verdict p (u ++ s)
      ≡ counting_also earlier (verdict p (white_space (length u) false ++ s))

-- That holds if the last byte of u is the last one of a marker that finishes a game.
abbrev pub GamesRestart : Type 0
GamesRestart =
    (p : Profile) (u s : List ℕ) (given rest : List Token) (marker : Token)
    → tokens_of (u ++ s) ≡ given ++ marker ∷ rest
    → EndsAt marker.kind marker.at (length u) → FinishesGame p given marker
    → ReadsOnBehind p u s (games_read p (given ++ marker ∷ []))
