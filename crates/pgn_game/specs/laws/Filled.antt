-- **Definition**: what an export keeps of a game, as a game.
-- That is its pairs, with the defaults of the roster and with the SetUp of a FEN, and the items
-- that are written (PGN 3.2.4, 8.1.1, 9.7).
use Rattle.std.specs.Prelude.{List, map}
use Rattle.pgn_game.specs.declared.mode.Mode.{Mode}
use Rattle.pgn_game.specs.games.Levels.{start_of, first_level}
use Rattle.pgn_game.specs.games.Game.{Item, Game}
use Rattle.pgn_game.specs.games.Pairs.{Pair}
use Rattle.pgn_game.specs.export.TagSection.{exported}
use Rattle.pgn_game.specs.export.Text.{placed_from, written_items}
use Rattle.pgn_game.specs.games.Spells.{by_name}

-- The pairs of the tag section. A missing Result is written as the marker of the game. If it counts
-- as a text, the marker of a game that is read is that text.
abbrev pub exported_pairs : Mode → Game → List Pair
exported_pairs mode g = exported mode g.marker g.pairs

-- All items, or in the reduced format the moves outside variations (PGN 3.2.4).
abbrev pub exported_items : Mode → Game → List Item
exported_items mode g =
    map (λ i. i.item) (written_items mode (placed_from (start_of g.pairs) first_level g.items))

-- The game with its defaults filled in: each tag of the roster has a value, and a FEN has SetUp 1
-- beside it. In the reduced format the game is cut down to what is written: the roster, and the
-- moves outside variations.
abbrev pub filled : Mode → Game → Game
filled mode g =
    record {
      pairs = by_name (exported_pairs mode g);
      items = exported_items mode g;
      marker = g.marker;
    }
