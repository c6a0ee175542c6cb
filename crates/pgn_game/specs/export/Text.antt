-- **Definition**: the export text of games, and of a part of one (PGN 3.2, 8.2).
-- Letters: p is the profile, and in `tokens_at` a position; m is a move, i an item, n a number, g a
-- game, ls are levels, is are items, gs are games.
use Rattle.std.specs.Prelude.{ℕ, Bool, true, false, ◌&&◌, List, [], ◌∷◌, ◌++◌, filter, ◌==◌, codes, decimal}
use Rattle.std.specs.List.{list_any}
use Rattle.chess_rules.specs.declared.position.Parts.{Parts}
use Rattle.pgn_layout.specs.Lines.{lines_of, full_lines, text_of as text_of_lines}
use Rattle.pgn_game.specs.declared.mode.Mode.{Mode}
use Rattle.pgn_game.specs.declared.mode.Mode.TheVariants.{Full, Reduced}
use Rattle.pgn_game.specs.declared.stage.Stage.{Stage}
use Rattle.pgn_game.specs.declared.stage.Stage.TheVariants.{InMovetext}
use Rattle.pgn_game.specs.games.Profile.{Profile, Missing, counts_as, takes_the_marker}
use Rattle.pgn_game.specs.games.Chess.{text_of_move, is_black_to_move}
use Rattle.pgn_game.specs.games.Game.{Item, move, glyph, comment_open, word, comment_close, open_variation, close_variation, Game, Part}
use Rattle.pgn_game.specs.games.Levels.{Levels, levels_after, first_level, start_of, depth, here}
use Rattle.pgn_game.specs.export.TagSection.{tag_section}
use Rattle.pgn_game.specs.games.FaultTable.{result_for}

-- an item, with the position and the depth of variations just before it
pub record Placed : Type 0 where
  pub position : Parts
  pub depth : ℕ
  pub item : Item

-- items one after another, of which the first is at these levels, in a game that begins with this
-- position
abbrev pub placed_from : Parts → Levels → List Item → List Placed
placed_from start ls [] = []
placed_from start ls (i ∷ is) = record { position = here start ls; depth = depth ls; item = i } ∷ placed_from start (levels_after ls i) is

-- the item is a move
abbrev pub is_move : Item → Bool
is_move (move m) = true
is_move _ = false

-- a move is among the items
abbrev pub has_move : List Item → Bool
has_move items = list_any is_move items

-- a move outside variations
abbrev pub is_main_move : Placed → Bool
is_main_move i = is_move i.item && (i.depth == 0)

-- the items that are written: all, or in the reduced format the moves outside variations (PGN
-- 3.2.4)
abbrev pub written_items : Mode → List Placed → List Placed
written_items Full is = is
written_items Reduced is = filter is_main_move is

-- The number of a move: `n.` before White's; before Black's `n...`, unless a move is just before it
-- (PGN 8.2.2.2).
abbrev pub number_before : Bool → Bool → ℕ → List (List ℕ)
number_before is_after_move false n = (decimal n ++ codes ".") ∷ []
number_before false true n = (decimal n ++ codes "...") ∷ []
number_before true true n = []

-- the tokens of an item: a move with its number, `$` and the number of a NAG (PGN 8.2.4), a brace
-- or a word of a comment, a parenthesis
abbrev pub tokens_at : Bool → Parts → Item → List (List ℕ)
tokens_at is_after_move p (move m) = number_before is_after_move (is_black_to_move p) p.full ++ text_of_move p m ∷ []
tokens_at is_after_move p (glyph n) = (codes "$" ++ decimal n) ∷ []
tokens_at is_after_move p comment_open = codes "{" ∷ []
tokens_at is_after_move p (word text) = text ∷ []
tokens_at is_after_move p comment_close = codes "}" ∷ []
tokens_at is_after_move p open_variation = codes "(" ∷ []
tokens_at is_after_move p close_variation = codes ")" ∷ []

-- the tokens of items, one after another; the Bool says whether a move is just before them
abbrev pub tokens_from : Bool → List Placed → List (List ℕ)
tokens_from is_after_move [] = []
tokens_from is_after_move (i ∷ is) = tokens_at is_after_move i.position i.item ++ tokens_from (is_move i.item) is

-- the movetext tokens of the items of a game that begins with this position
abbrev pub tokens_out : Mode → Parts → List Item → List (List ℕ)
tokens_out mode start items = tokens_from false (written_items mode (placed_from start first_level items))

-- the tag section, the lines of movetext with the marker last, and an empty line
abbrev pub game_text : Profile → Game → List ℕ
game_text p g =
    tag_section p.mode (result_for p.missing_result g.marker) g.pairs
    ++ text_of_lines (lines_of (tokens_out p.mode (start_of g.pairs) g.items ++ g.marker ∷ [])) ++ 10 ∷ []

-- the text of games, one after another
abbrev pub text_of : Profile → List Game → List ℕ
text_of p [] = []
text_of p (g ∷ gs) = game_text p g ++ text_of p gs

-- all lines of movetext but the last
abbrev pub full_text : Mode → Parts → List Item → List ℕ
full_text mode start items = text_of_lines (full_lines (lines_of (tokens_out mode start items)))

-- what is written of a part at this stage; `result` is the value of a missing Result
abbrev pub torn_at : Stage → Mode → List ℕ → Part → List ℕ
torn_at InMovetext mode result part = tag_section mode result part.pairs ++ full_text mode (start_of part.pairs) part.items
torn_at _ mode result part = []

-- the same, by what a missing Result is
abbrev pub torn_for : Missing → Mode → Part → List ℕ
torn_for (counts_as text) mode part = torn_at part.stage mode text part
torn_for takes_the_marker mode part = []

-- What is written of the current game: nothing while it has no movetext; then its tag section and
-- all lines but the last. If a missing Result takes the marker, the section waits for the marker,
-- and nothing is written.
abbrev pub torn : Profile → Part → List ℕ
torn p part = torn_for p.missing_result p.mode part
