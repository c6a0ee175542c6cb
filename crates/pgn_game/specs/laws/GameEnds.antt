-- **Definition**: the laws of the end of a game: by its marker, and at the end of a text.
-- Letters: p is the profile, u a text, c a converter that stands after u. `given` are the tokens
-- read before the marker.
use Rattle.std.specs.Prelude.{◌≡◌, ℕ, ◌<◌, List, [], ◌∷◌, ◌++◌, length, codes, None, Some}
use Rattle.pgn_lexer.specs.Tokens as tokens
use Rattle.pgn_lexer.specs.Tokens.{Token, EndsAt}
use Rattle.pgn_lexer.specs.TokensOf.{tokens_of}
use Rattle.pgn_game.specs.games.Profile.{Profile}
use Rattle.pgn_game.specs.games.Pairs.{value_of}
use Rattle.pgn_game.specs.export.TagSection.{exported}
use Rattle.pgn_game.specs.games.Game.{Game}
use Rattle.pgn_game.specs.games.FaultTable.{marker_of, result_for}
use Rattle.pgn_game.specs.export.Text.{text_of}
use Rattle.pgn_game.specs.games.Progress.{read, due}
use Rattle.pgn_game.specs.public.ConverterCalls.{Converter, Stands}
use Rattle.pgn_game.specs.laws.GamesRestart.{games_read, FinishesGame}

-- The token that finishes a game is its marker, which is the Result of its tag section. After it
-- the output is that of finished games.
pub record EndsByMarker (p : Profile) (given : List Token) (marker : Token) (game : Game) : Type 0 where
  pub is_marker : marker_of marker.kind ≡ Some game.marker
  pub result : value_of (exported p.mode (result_for p.missing_result game.marker) game.pairs) (codes "Result")
      ≡ Some game.marker
  pub whole : due p (given ++ marker ∷ []) ≡ text_of p (games_read p (given ++ marker ∷ []))

-- Each token that finishes a game is such a marker.
abbrev pub GamesEndByMarker : Type 0
GamesEndByMarker =
    (p : Profile) (given : List Token) (marker : Token) (finishes : FinishesGame p given marker)
    → EndsByMarker p given marker finishes.game

-- The end of the text u finishes a game: its marker is the last token before the end, and ends
-- where the text does. No token is rejected, and no game comes after it.
pub record LastGame (p : Profile) (u : List ℕ) (given : List Token) : Type 0 where
  pub marker : Token
  pub finishes : FinishesGame p given marker
  pub tokens : tokens_of u ≡ given ++ marker ∷ record { at = length u; kind = tokens.end } ∷ []
  pub passes : (read p (tokens_of u)).fault ≡ None
  pub same : games_read p (tokens_of u) ≡ games_read p (given ++ marker ∷ [])
  pub ends : EndsAt marker.kind marker.at (length u)

-- That holds if a converter stands after the text u, and the text has more games than the tokens
-- given.
abbrev pub TextsEndBehindMarker : Type 0
TextsEndBehindMarker =
    (p : Profile) (c : Converter) (u : List ℕ) (given : List Token)
    → Stands p c u None given → length (games_read p given) < length (games_read p (tokens_of u))
    → LastGame p u given

-- A text without a fault ends between games: its output is that of finished games.
abbrev pub TextsEndBetweenGames : Type 0
TextsEndBetweenGames =
    (p : Profile) (u : List ℕ) → (read p (tokens_of u)).fault ≡ None
    → due p (tokens_of u) ≡ text_of p (games_read p (tokens_of u))
