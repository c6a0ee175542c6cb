-- **Definition**: the items of the next game of a text, as C gets them: a line each.
-- Letters: f are the fields of a move's line, g is what is given, m a move, p the profile, and s
-- the text of a call with white space in place of the bytes before the place that it is read from.
-- `before` and `after` are the bytes of the buffer before a call and after it. `first` is the
-- number of the first item whose line is written.
use Rattle.std.specs.Prelude.{◌≡◌, ℕ, ◌+◌, ◌-◌, ◌^◌, ◌<◌, ◌≤◌, ◌==◌, ◌/◌, ◌%◌, ◌⊎◌, if◌then◌else◌, Bool, true, false, IsTrue, is_some, List, [], ◌∷◌, ◌++◌, fold, length, min, take, drop, decimal, codes, Option, Some, None}
use Rattle.chess_rules.specs.declared.position.Move.{Move}
use Rattle.chess_rules.specs.declared.position.Parts.{Parts}
use Rattle.chess_rules.specs.declared.piece.Colour.{Colour}
use Rattle.chess_rules.specs.declared.piece.Colour.TheVariants.{White, Black}
use Rattle.chess_text.specs.Fen.{fen_text}
use Rattle.chess_text.specs.Key.{position_key}
use Rattle.chess_text.specs.San.{san}
use Rattle.chess_text.specs.Uci.{uci}
use Rattle.pgn_game.specs.declared.mode.Mode.TheVariants.{Full}
use Rattle.pgn_game.specs.declared.reason.Fault.{Fault}
use Rattle.pgn_game.specs.public.Given.{Given, Shown, given_of, item, marker, shown, tags}
use Rattle.pgn_game.specs.games.FaultTable.{marker_of}
use Rattle.pgn_game.specs.games.Game as games
use Rattle.pgn_game.specs.games.Levels.{here, levels_of, start_of}
use Rattle.pgn_game.specs.games.Profile.{Profile}
use Rattle.pgn_game.specs.games.Progress.{read}
use Rattle.pgn_game.specs.games.Reason.{line_of, number_of}
use Rattle.pgn_lexer.specs.Tokens.{EndsAt, Token}
use Rattle.pgn_lexer.specs.TokensOf.{tokens_of}
use Rattle.pgn_c.specs.NextGame.{text_from}
use Rattle.pgn_c.specs.Results.{padded, profile_in}
use Rattle.pgn_c.specs.declared.items.MoveFields.{MoveFields}
use Rattle.pgn_c.specs.declared.items.PgnItems.{PgnItems}

-- ---- the line of an item

-- The fields with this number: SAN is 1, UCI 2, FEN 4 and the key 8, and several are their sum.
abbrev pub fields_of : ℕ → Option MoveFields
fields_of number =
    if number / 16 == 0
    then Some (record { san = number % 2 == 1; uci = number / 2 % 2 == 1; fen = number / 4 % 2 == 1; key = number / 8 == 1 })
    else None

-- a tab (9), and behind it a field
abbrev pub field : List ℕ → List ℕ
field text = 9 ∷ text

-- a field that was asked for
abbrev pub field_if : Bool → List ℕ → List ℕ
field_if true text = field text
field_if false text = []

-- the number of a move in a position (PGN 8.2.2): `12.` for White, `12...` for Black
abbrev pub dots : Colour → List ℕ
dots White = codes "."
dots Black = codes "..."

abbrev pub number_in : Parts → List ℕ
number_in position = decimal position.full ++ dots position.side

-- The line of a move: its number, and the fields that were asked for: its SAN, its UCI, the FEN of
-- the position after it, and the key of that position. A line feed (10) ends it.
abbrev pub move_line : MoveFields → Parts → Move → Parts → List ℕ
move_line f position m next =
    codes "M" ++ field (number_in position) ++ field_if f.san (san position m) ++ field_if f.uci (uci m)
    ++ (field_if f.fen (fen_text next) ++ field_if f.key (position_key next)) ++ 10 ∷ []

-- The text of an item of movetext behind other items of a game that begins with this position. A
-- comment is a line, with a field for each of its words.
abbrev pub item_text : MoveFields → Parts → List games.Item → games.Item → List ℕ
item_text f start items (games.move m) = move_line f (here start (levels_of items)) m (here start (levels_of (items ++ games.move m ∷ [])))
item_text f start items (games.glyph n) = codes "G" ++ field (decimal n) ++ 10 ∷ []
item_text f start items games.comment_open = codes "C"
item_text f start items (games.word w) = field w
item_text f start items games.comment_close = 10 ∷ []
item_text f start items games.open_variation = codes "(" ++ 10 ∷ []
item_text f start items games.close_variation = codes ")" ++ 10 ∷ []

-- The text of what is given behind what was shown of the game. Tags have none.
abbrev pub given_text : MoveFields → Option Shown → Given → List ℕ
given_text f _ (tags pairs) = []
given_text f None (item i) = []
given_text f (Some s) (item i) = item_text f (start_of s.pairs) s.items i
given_text f _ (marker m) = codes "R" ++ field m ++ 10 ∷ []

-- the text of these items, behind those
abbrev pub texts_behind : MoveFields → List Given → List Given → List ℕ
texts_behind f given [] = []
texts_behind f given (g ∷ gs) = given_text f (shown given) g ++ texts_behind f (given ++ g ∷ []) gs

-- ---- whole lines

-- whether a line ends with this item: one goes on only inside a comment
abbrev pub ends_line : Given → Bool
ends_line (item games.comment_open) = false
ends_line (item (games.word w)) = false
ends_line _ = true

-- whether these items end with a line
abbrev pub are_lines : List Given → Bool
are_lines gs = fold (λ _ g. ends_line g) true gs

-- the first items of these, up to the end of a line
abbrev pub first_line : List Given → List Given
first_line [] = []
first_line (g ∷ gs) = if ends_line g then g ∷ [] else g ∷ first_line gs

-- ---- the items of a game

-- the first items of these, up to a marker
abbrev pub first_game : List Given → List Given
first_game [] = []
first_game (marker m ∷ gs) = marker m ∷ []
first_game (g ∷ gs) = g ∷ first_game gs

-- whether a marker is among these items
abbrev pub has_marker : List Given → Bool
has_marker [] = false
has_marker (marker m ∷ gs) = true
has_marker (g ∷ gs) = has_marker gs

-- the items of the next game of a text
abbrev pub game_items : Profile → List ℕ → List Given
game_items p s = first_game (given_of (read p (tokens_of s)).progress)

-- The next game of the text s ends at this place. The first tokens of the text, of which none is
-- rejected, are read into the items of the game and into no others. The last of them, `at`, is the
-- game's marker, and ends there.
pub record GameEndsAt (p : Profile) (s : List ℕ) (place : ℕ) : Type 0 where
  pub tokens : List Token
  pub at : Token
  pub later : List Token
  pub first : tokens_of s ≡ (tokens ++ at ∷ []) ++ later
  pub passes : (read p (tokens ++ at ∷ [])).fault ≡ None
  pub items : given_of (read p (tokens ++ at ∷ [])).progress ≡ game_items p s
  pub is_marker : IsTrue (is_some (marker_of at.kind))
  pub ends : EndsAt at.kind at.at place

-- ---- results

-- the number of items in C, which is at most 2^64 - 1
abbrev pub counted : ℕ → ℕ
counted n = min n (2 ^ 64 - 1)

-- The result without a fault: its status, how many bytes were written, and the number of the next
-- item.
abbrev pub plain_result : ℕ → ℕ → ℕ → PgnItems
plain_result status written next =
    record { status = status; fault = 0; place = 0; written = written; next_item = next; end = 0; reason_at = 0; message = padded 104 [] }

-- The result for a fault. The message is its line, in which the reason comes after `byte N: `.
abbrev pub fault_result : Fault → ℕ → ℕ → PgnItems
fault_result f written next =
    record { status = 1; fault = number_of f.reason; place = f.at; written = written; next_item = next; end = 0; reason_at = 7 + length (decimal f.at); message = padded 104 (line_of f) }

-- The result if all is written that is given of a game: 0 if its marker is, 1 for the fault of the
-- text, and 4 if no game is left. `end` is the place behind the marker.
abbrev pub all_result : Bool → Option Fault → ℕ → ℕ → ℕ → PgnItems
all_result true fault end written next = record (plain_result 0 written next) { end = end }
all_result false (Some f) end written next = fault_result f written next
all_result false None end written next = plain_result 4 written next

-- ---- the call

-- The buffer begins with what was written, and has its length.
pub record IsBegun (before after written : List ℕ) : Type 0 where
  pub behind : List ℕ
  pub now : after ≡ written ++ behind
  pub long : length after ≡ length before

-- What is left behind the lines that were written: nothing, or items whose first line does not fit.
abbrev pub IsLeft : MoveFields → List Given → List Given → List Given → Bool → Option Fault → ℕ → ℕ → PgnItems → Type 0
IsLeft f passed put [] has_end fault end capacity result =
    result ≡ all_result has_end fault end (length (texts_behind f passed put)) (counted (length (passed ++ put)))
IsLeft f passed put (g ∷ gs) has_end fault end capacity result =
    IsTrue (are_lines put) × (capacity < length (texts_behind f passed put) + length (texts_behind f (passed ++ put) (first_line (g ∷ gs))))
    × (result ≡ record (plain_result 2 (length (texts_behind f passed put)) (counted (length (passed ++ put)))) { fault = 51 })

-- The lines of the next game's items, from the one with this number on, are written as far as the
-- buffer has room. `put` are the items whose text was written. If all others were passed, that is
-- all that is given of the game, up to its marker or the text's first fault. With status 0 the
-- game ends at the place `end` of the result.
pub record WritesItems (f : MoveFields) (s : List ℕ) (first : ℕ) (before after : List ℕ) (result : PgnItems) : Type 0 where
  pub passed : List Given
  pub put : List Given
  pub left : List Given
  pub end : ℕ
  pub is_passed : passed ≡ take first (game_items (profile_in Full) s)
  pub is_put : drop first (game_items (profile_in Full) s) ≡ put ++ left
  pub written : IsBegun before after (texts_behind f passed put)
  pub is_result : IsLeft f passed put left (has_marker (game_items (profile_in Full) s))
      (read (profile_in Full) (tokens_of s)).fault end (length before) result
  pub game_ends : result.status ≡ 0 → GameEndsAt (profile_in Full) s result.end

-- With a place after the end of the text, or a text of more than 2^62 bytes, the status is 6, and
-- nothing is written.
pub record WritesItemsAt (f : MoveFields) (text : List ℕ) (from first : ℕ) (before after : List ℕ) (result : PgnItems) : Type 0 where
  pub bad_place : (length text < from) ⊎ (2 ^ 62 < length text) → (after ≡ before) × (result ≡ plain_result 6 0 0)
  pub writes : from ≤ length text → length text ≤ 2 ^ 62 → WritesItems f (text_from text from) first before after result

-- If there are no such fields, the status is 3, and nothing is written.
abbrev pub WritesItemsIn : Option MoveFields → List ℕ → ℕ → ℕ → List ℕ → List ℕ → PgnItems → Type 0
WritesItemsIn None text from first before after result = (after ≡ before) × (result ≡ plain_result 3 0 0)
WritesItemsIn (Some f) text from first before after result = WritesItemsAt f text from first before after result
