-- **Definition**: a line of play: the plies that a text of moves names, from a position on.
-- Letters: p is a position, s a text, w a word, ws are words.
use Rattle.std.specs.Prelude.{◌≡◌, ℕ, ◌+◌, ◌<◌, Bool, ◌||◌, not, List, [], ◌∷◌, ◌++◌, length, filter, ◌==◌, if◌then◌else◌, Option, None, Some, Result, Ok, Err}
use Rattle.std.specs.List.{list_all}
use Rattle.chess_rules.specs.declared.position.Parts.{Parts}
use Rattle.chess_rules.specs.declared.position.Played.{Played}
use Rattle.pgn_lexer.specs.Bytes.{is_digit, is_space}
use Rattle.pgn_game.specs.declared.line_of_play.MoveOfLine.{MoveOfLine}
use Rattle.pgn_game.specs.declared.line_of_play.Ply.{Ply as CodePly}
use Rattle.pgn_game.specs.declared.notation.Notation.{Notation}
use Rattle.pgn_game.specs.declared.reason.Fault.{Fault}
use Rattle.pgn_game.specs.games.Chess.{text_of_move}
use Rattle.pgn_game.specs.public.Notations.{named_in}

-- ---- the words of a text

-- a word, and the place of its first byte
pub record Word : Type 0 where
  pub at : ℕ
  pub text : List ℕ

-- the word of these bytes, unless there is none
abbrev pub word_of : ℕ → List ℕ → List Word
word_of at [] = []
word_of at (b ∷ s) = record { at = at; text = b ∷ s } ∷ []

-- The words that white space divides, of a text whose first bytes, those of `w`, were read: they
-- are no white space, and the first of them is at this place.
abbrev pub words_behind : ℕ → List ℕ → List ℕ → List Word
words_behind at w [] = word_of at w
words_behind at w (b ∷ s) = if is_space b then word_of at w ++ words_behind (at + length w + 1) [] s else words_behind at (w ++ b ∷ []) s

-- digits and periods alone, as move numbers have them (PGN 8.2.2)
abbrev pub is_move_number : List ℕ → Bool
is_move_number text = list_all (λ b. is_digit b || (b == 46)) text

-- the words that are to name moves, of a text that begins at this place
abbrev pub move_texts : ℕ → List ℕ → List Word
move_texts at s = filter (λ w. not (is_move_number w.text)) (words_behind at [] s)

-- ---- the plies

-- a ply: the place of its text, the move with the position after it, and its SAN
pub record Ply : Type 0 where
  pub at : ℕ
  pub played : Played
  pub san : List ℕ

-- the plies that are named, and the fault of the word that names none, if there is one
pub record Line : Type 0 where
  pub plies : List Ply
  pub fault : Option Fault

abbrev pub no_plies : Option Fault → Line
no_plies fault = record { plies = []; fault = fault }

-- a line with one more ply before it
abbrev pub behind_ply : Ply → Line → Line
behind_ply x line = record { plies = x ∷ line.plies; fault = line.fault }

-- The plies that the words name in turn: the first in this position, each other in the position
-- after the one before. The first word that names no move ends the line.
abbrev pub line_of_words : Notation → Parts → List Word → Line
line_of_words notation p [] = no_plies None
line_of_words notation p (w ∷ ws) = elim (named_in notation p w.text) [
  | Ok played ↦ behind_ply (record { at = w.at; played = played; san = text_of_move p played.mv }) (line_of_words notation played.next ws)
  | Err reason ↦ no_plies (Some (record { at = w.at; reason = reason }))
]

-- the line of play of a text, from a position on
abbrev pub line_of_text : Notation → Parts → List ℕ → Line
line_of_text notation p text = line_of_words notation p (move_texts 0 text)

-- ---- the calls

-- what is ahead on a line of play: the words that are to be played from the position
pub record Ahead : Type 0 where
  pub notation : Notation
  pub position : Parts
  pub words : List Word

abbrev pub line_ahead : Ahead → Line
line_ahead a = line_of_words a.notation a.position a.words

-- a ply as it is returned
abbrev pub ply_of : CodePly → Ply
ply_of x = record { at = x.at; played = x.played; san = x.san.items }

-- the ply of a move that is returned, in this position
abbrev pub ply_of_move : Parts → MoveOfLine → Ply
ply_of_move p x = record { at = x.at; played = x.played; san = text_of_move p x.played.mv }

-- What the next ply leaves ahead: the rest of the line, with fewer words. If no ply is left, or a
-- word names no move, nothing has changed.
abbrev pub NextPly : Ahead → Result (Option CodePly) Fault → Ahead → Type 0
NextPly old (Ok (Some x)) new =
    (line_ahead old ≡ behind_ply (ply_of x) (line_ahead new)) × (length new.words < length old.words)
NextPly old (Ok None) new = (line_ahead old ≡ no_plies None) × (new ≡ old)
NextPly old (Err fault) new = (line_ahead old ≡ no_plies (Some fault)) × (new ≡ old)

-- the same of its move
abbrev pub NextMove : Ahead → Result (Option MoveOfLine) Fault → Ahead → Type 0
NextMove old (Ok (Some x)) new =
    (line_ahead old ≡ behind_ply (ply_of_move old.position x) (line_ahead new)) × (length new.words < length old.words)
NextMove old (Ok None) new = (line_ahead old ≡ no_plies None) × (new ≡ old)
NextMove old (Err fault) new = (line_ahead old ≡ no_plies (Some fault)) × (new ≡ old)
