-- **Bookkeeping**: the line of the next ply, as it is pushed.
use Rattle.std.specs.Prelude.{◌≡◌, ℕ, ◌<◌, List, length, Option, Some, None, Result, Ok, Err}
use Rattle.pgn_game.specs.declared.reason.Fault.{Fault}
use Rattle.pgn_game.specs.public.LineOfPlay.{Ahead, Ply, behind_ply, line_ahead, no_plies}
use Rattle.pgn_c.specs.LinesOfPlay.{ply_line}
use Rattle.pgn_c.specs.declared.line_of_play.PlyFields.{PlyFields}

-- the text is the line of the first ply that was ahead, and the others are ahead now
pub record IsNextLine (fields : PlyFields) (old : Ahead) (at : ℕ) (new : Ahead) (text : List ℕ) : Type 0 where
  pub ply : Ply
  pub next : line_ahead old ≡ behind_ply ply (line_ahead new)
  pub fewer : length new.words < length old.words
  pub place : ply.at ≡ at
  pub line : text ≡ ply_line fields ply

-- the line of the next ply is pushed, unless there is none
abbrev pub PushesNext : PlyFields → Ahead → Result (Option ℕ) Fault → Ahead → List ℕ → Type 0
PushesNext fields old (Ok (Some at)) new text = IsNextLine fields old at new text
PushesNext fields old (Ok None) new text = line_ahead old ≡ no_plies None
PushesNext fields old (Err fault) new text = line_ahead old ≡ no_plies (Some fault)
