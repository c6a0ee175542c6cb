-- **Definition**: games and their parts (PGN 18).
use Rattle.std.specs.Prelude.{ℕ, List, []}
use Rattle.chess_rules.specs.declared.position.Move.{Move}
use Rattle.pgn_game.specs.declared.stage.Stage.{Stage}
use Rattle.pgn_game.specs.declared.stage.Stage.TheVariants.{Between}
use Rattle.pgn_game.specs.games.Pairs.{Pair}

-- What movetext has beside move numbers: moves, NAGs (PGN 8.2.4), comments word by word (PGN 5),
-- and the parentheses of variations (PGN 8.2.5).
pub data Item : Type 0 where
  move : Move → Item
  glyph : ℕ → Item
  comment_open : Item
  word : List ℕ → Item
  comment_close : Item
  open_variation : Item
  close_variation : Item

-- the pairs in the order of their names, since their order in the input decides nothing; the items
-- of movetext; and the marker
pub record Game : Type 0 where
  pub pairs : List Pair
  pub items : List Item
  pub marker : List ℕ

-- the part of the current game: its stage, the pairs with a value, in the order of their names, the
-- name without a value yet, and the items so far
pub record Part : Type 0 where
  pub stage : Stage
  pub pairs : List Pair
  pub name : List ℕ
  pub items : List Item

-- no game is begun
abbrev pub no_part : Part
no_part = record { stage = Between; pairs = []; name = []; items = [] }
