-- **Definition**: the law that each move of a game is legal in its position.
use Rattle.std.specs.Prelude.{Bool, true, IsTrue, List}
use Rattle.std.specs.List.{list_all}
use Rattle.chess_rules.specs.declared.position.Parts.{Parts}
use Rattle.chess_rules.specs.Legal.{is_legal}
use Rattle.pgn_lexer.specs.Tokens.{Token}
use Rattle.pgn_game.specs.games.Profile.{Profile}
use Rattle.pgn_game.specs.games.Pairs.{Pair}
use Rattle.pgn_game.specs.games.Game.{Item, move}
use Rattle.pgn_game.specs.games.Levels.{start_of, first_level}
use Rattle.pgn_game.specs.export.Text.{placed_from}
use Rattle.pgn_game.specs.games.Progress.{read}

-- A move has to be legal in this position (FIDE 3). Nothing is required of another item.
abbrev pub is_legal_at : Parts → Item → Bool
is_legal_at position (move m) = is_legal position m
is_legal_at position _ = true

-- Each move of the items is legal in its position, inside variations too. That is the position
-- after all moves that lead to it, played from the first position of a game with these pairs.
abbrev pub plays_legally : List Pair → List Item → Bool
plays_legally pairs items =
    list_all (λ i. is_legal_at i.position i.item) (placed_from (start_of pairs) first_level items)

-- Each move of the games that are read is legal in its position, and so is each move of the current
-- game.
abbrev pub MovesAreLegal : Type 0
MovesAreLegal = (p : Profile) (ts : List Token)
    → IsTrue (list_all (λ g. plays_legally g.pairs g.items) (read p ts).progress.games)
    × IsTrue (plays_legally (read p ts).progress.part.pairs (read p ts).progress.part.items)
