-- **Bookkeeping**: how the lines of items are put into a buffer, one item after another.
-- Letters: f are the fields of a move's line, g is what is given, i an item of the code, c the
-- current game. `before` and `now` are the bytes of the buffer before the call and now.
use Rattle.std.specs.Prelude.{◌≡◌, ℕ, ◌+◌, ◌^◌, ◌<◌, ◌≤◌, ◌⊎◌, Bool, true, false, List, [], ◌∷◌, ◌++◌, length, take, drop, codes, decimal, Option, Some, None}
use Rattle.chess_rules.specs.declared.position.Parts.{Parts}
use Rattle.pgn_game.specs.declared.mode.Mode.TheVariants.{Full}
use Rattle.pgn_game.specs.declared.item.Item.{Item as CodeItem}
use Rattle.pgn_game.specs.declared.item.Item.TheVariants as items
use Rattle.pgn_game.specs.public.Given.{Given}
use Rattle.pgn_game.specs.public.ItemsCalls.{Current, HaveGiven, Items, position_before_move, shown_position, shown_san, shown_uci, shown_word}
use Rattle.pgn_game.specs.games.Markers.{marker_text}
use Rattle.chess_text.specs.Fen.{fen_text}
use Rattle.chess_text.specs.Key.{position_key}
use Rattle.pgn_c.specs.ItemLines.{IsBegun, are_lines, counted, ends_line, field, field_if, has_marker, number_in, texts_behind}
use Rattle.pgn_c.specs.Results.{profile_in}
use Rattle.pgn_c.specs.declared.items.Lines.{Lines}
use Rattle.pgn_c.specs.declared.items.MoveFields.{MoveFields}

-- ---- the text of the item given last

-- the number of the move that is played in a position
abbrev pub number_if : Option Parts → List ℕ
number_if None = []
number_if (Some position) = field (number_in position)

-- a field that was asked for and is there
abbrev pub field_of : Bool → Option (List ℕ) → List ℕ
field_of wanted None = []
field_of wanted (Some text) = field_if wanted text

-- the fields of the position after a move
abbrev pub position_fields : MoveFields → Option Parts → List ℕ
position_fields f None = []
position_fields f (Some next) = field_if f.fen (fen_text next) ++ field_if f.key (position_key next)

abbrev pub code_move : MoveFields → Current → List ℕ
code_move f c =
    codes "M" ++ number_if (position_before_move c) ++ field_of f.san (shown_san c) ++ field_of f.uci (shown_uci c)
    ++ position_fields f (shown_position c) ++ 10 ∷ []

-- the text of an item of the code, without the word
abbrev pub front_text : MoveFields → Current → CodeItem → List ℕ
front_text f c items.Tags = []
front_text f c (items.Move m) = code_move f c
front_text f c (items.Glyph n) = codes "G" ++ field (decimal n) ++ 10 ∷ []
front_text f c items.CommentOpen = codes "C"
front_text f c items.Word = 9 ∷ []
front_text f c items.CommentClose = 10 ∷ []
front_text f c items.Open = codes "(" ++ 10 ∷ []
front_text f c items.Close = codes ")" ++ 10 ∷ []
front_text f c (items.Marker m) = codes "R" ++ field (marker_text m) ++ 10 ∷ []

-- whether a line ends with an item of the code, and whether that is a marker
abbrev pub code_ends : CodeItem → Bool
code_ends items.CommentOpen = false
code_ends items.Word = false
code_ends _ = true

abbrev pub is_marker : CodeItem → Bool
is_marker (items.Marker m) = true
is_marker _ = false

-- ---- one item more

-- The item is passed: no text is written.
abbrev pub passed_one : Lines → Lines
passed_one l = record l { items = l.items + 1; whole_items = l.items + 1 }

-- A text of so many bytes was put behind the others. Does the line end with it?
abbrev pub put_one : Lines → ℕ → Bool → Lines
put_one l n false = record l { items = counted (l.items + 1); used = l.used + n }
put_one l n true =
    record { items = counted (l.items + 1); used = l.used + n; whole_items = counted (l.items + 1); whole = l.used + n }

-- What putting a text does. If it does not fit, nothing is changed.
abbrev pub PutsText : Lines → Lines → List ℕ → Bool → List ℕ → List ℕ → Bool → Type 0
PutsText old new text ends before now true =
    (old.used + length text ≤ length before) × (new ≡ put_one old (length text) ends)
    × (now ≡ take old.used before ++ text ++ drop (old.used + length text) before)
PutsText old new text ends before now false =
    (length before < old.used + length text) × (new ≡ old) × (now ≡ before)

-- What putting an item does: one before the first that is written is passed.
pub record PutsItem (f : MoveFields) (first : ℕ) (c : Current) (i : CodeItem) (old new : Lines) (before now : List ℕ) (result : Bool) : Type 0 where
  pub passes : old.items < first → (result ≡ true) × (new ≡ passed_one old) × (now ≡ before)
  pub puts : first ≤ old.items → PutsText old new (front_text f c i ++ shown_word c) (code_ends i) before now result

-- ---- what was written so far

-- No line ends with one of these items.
abbrev pub NoneEnds : List Given → Type 0
NoneEnds [] = Unit {0}
NoneEnds (g ∷ gs) = (ends_line g ≡ false) × NoneEnds gs

-- Of the items given, the first were passed, the text of those behind them was put into the buffer,
-- and `pending` are those of a line that goes on.
pub record LinesSoFar (f : MoveFields) (first : ℕ) (given : List Given) (before now : List ℕ) (l : Lines) : Type 0 where
  pub passed : List Given
  pub put : List Given
  pub pending : List Given
  pub parts : given ≡ passed ++ (put ++ pending)
  pub few : length passed ≤ first
  pub all : (put ++ pending ≡ []) ⊎ (length passed ≡ first)
  pub lines : are_lines put ≡ true
  pub none_ends : NoneEnds pending
  pub count : l.items ≡ counted (length given)
  pub used : l.used ≡ length (texts_behind f passed (put ++ pending))
  pub whole_count : l.whole_items ≡ counted (length (passed ++ put))
  pub whole : l.whole ≡ length (texts_behind f passed put)
  pub begun : IsBegun before now (texts_behind f passed (put ++ pending))

-- These items of the text s were given, before a marker.
pub record GivenSoFar (f : MoveFields) (s : List ℕ) (first : ℕ) (before now : List ℕ) (i : Items) (rest : List ℕ) (l : Lines) : Type 0 where
  pub u : List ℕ
  pub given : List Given
  pub text : s ≡ u ++ rest
  pub have : HaveGiven (profile_in Full) (Some rest) u i given
  pub no_marker : has_marker given ≡ false
  pub lines : LinesSoFar f first given before now l

-- Of a source that had these bytes left, so much was given and written since the call began.
pub record WritesSoFar (f : MoveFields) (first : ℕ) (old : Items) (left : List ℕ) (before now : List ℕ) (i : Items) (rest : List ℕ) (l : Lines) : Type 0 where
  pub room : l.used ≤ length now
  pub given : (u : List ℕ) → HaveGiven (profile_in Full) (Some left) u old [] → length (u ++ left) ≤ 2 ^ 62
      → GivenSoFar f (u ++ left) first before now i rest l
