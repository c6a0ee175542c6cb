-- **Definition**: the items of games one by one, as they are given to a caller: the tag pairs of a
-- game once its tag section is whole, each item of its movetext, and its marker.
-- Letters: g is a game, m a marker, i an item.
use Rattle.std.specs.Prelude.{ℕ, List, [], ◌∷◌, ◌++◌, map, fold, Option, None, Some}
use Rattle.pgn_game.specs.declared.stage.Stage.{Stage}
use Rattle.pgn_game.specs.declared.stage.Stage.TheVariants.{InMovetext}
use Rattle.pgn_game.specs.games.Pairs.{Pair}
use Rattle.pgn_game.specs.games.Game.{Item, Game, Part}
use Rattle.pgn_game.specs.games.Progress.{Next, Progress, going, whole}

-- What is given: the tag pairs of a game that begins, in the order of their names, an item of its
-- movetext, or the marker that ends it.
pub data Given : Type 0 where
  tags : List Pair → Given
  item : Item → Given
  marker : List ℕ → Given

-- the tag pairs, and behind them these items
abbrev pub given_with : List Pair → List Item → List Given
given_with pairs items = tags pairs ∷ map item items

-- What is given of a part of a game. Before movetext begins its tag section may go on, and nothing
-- is.
abbrev pub given_at : Stage → Part → List Given
given_at InMovetext part = given_with part.pairs part.items
given_at _ part = []

abbrev pub given_of_part : Part → List Given
given_of_part part = given_at part.stage part

-- what is given of a whole game
abbrev pub given_of_game : Game → List Given
given_of_game g = given_with g.pairs g.items ++ marker g.marker ∷ []

abbrev pub given_of_games : List Game → List Given
given_of_games [] = []
given_of_games (g ∷ games) = given_of_game g ++ given_of_games games

-- what is given of the part or the game that a token leads to
abbrev pub given_of_next : Next → List Given
given_of_next (going part) = given_of_part part
given_of_next (whole g) = given_of_game g

-- What is given of all that was read.
abbrev pub given_of : Progress → List Given
given_of b = given_of_games b.games ++ given_of_part b.part

-- The game of which something was given last: its tag pairs, the items given of it, and its marker,
-- if that was given.
pub record Shown : Type 0 where
  pub pairs : List Pair
  pub items : List Item
  pub marker : Option (List ℕ)

abbrev pub shown_with : Option Shown → Given → Option Shown
shown_with shown (tags pairs) = Some (record { pairs = pairs; items = []; marker = None })
shown_with None _ = None
shown_with (Some s) (item i) = Some (record { pairs = s.pairs; items = s.items ++ i ∷ []; marker = s.marker })
shown_with (Some s) (marker m) = Some (record { pairs = s.pairs; items = s.items; marker = Some m })

-- that of all that was given so far
abbrev pub shown : List Given → Option Shown
shown given = fold shown_with None given
