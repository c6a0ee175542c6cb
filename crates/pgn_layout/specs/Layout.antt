-- **Definition**: what a layout holds, and what each call writes.
use Rattle.std.specs.Prelude.{◌≡◌, ℕ, Bool, true, false, IsTrue, List, [], ◌∷◌, ◌++◌, Result, MatchResult, IsErr}
use Rattle.pgn_layout.specs.Device.{Counts}
use Rattle.pgn_layout.specs.TagLine.{tag_line}
use Rattle.pgn_layout.specs.Lines.{has_room}

-- what a contract sees of a layout: the line that is not written yet, and whether a write has
-- failed
pub record Layout : Type 0 where
  pub line : List ℕ
  pub has_failed : Bool

-- a layout with this current line, which has not failed
abbrev pub holding : List ℕ → Layout
holding line = record { line = line; has_failed = false }

-- what a layout is asked to do
pub data Call : Type 0 where
  Tag : List ℕ → List ℕ → Call
  EndTags : Call
  Put : List ℕ → Call
  EndGame : Call
  DropLine : Call

-- the line with LF, if there is one
abbrev pub ended : List ℕ → List ℕ
ended [] = []
ended (b ∷ bs) = (b ∷ bs) ++ 10 ∷ []

-- what is written for a token when this is the current line: the line, if there is no room on it
abbrev pub text_put : List ℕ → List ℕ → List ℕ
text_put [] token = []
text_put (b ∷ bs) token = elim (has_room (b ∷ bs) token) [ true ↦ [] | false ↦ ended (b ∷ bs) ]

-- the line with the token on it, or the token alone
abbrev pub line_put : List ℕ → List ℕ → List ℕ
line_put [] token = token
line_put (b ∷ bs) token = elim (has_room (b ∷ bs) token) [ true ↦ (b ∷ bs) ++ 32 ∷ token | false ↦ token ]

-- what a call writes when this is the current line
abbrev pub text_at : List ℕ → Call → List ℕ
text_at line (Tag name value) = tag_line name value
text_at line EndTags = 10 ∷ []
text_at line (Put token) = text_put line token
text_at line EndGame = ended line ++ 10 ∷ []
text_at line DropLine = []

-- the current line after a call
abbrev pub line_at : List ℕ → Call → List ℕ
line_at line (Tag name value) = line
line_at line EndTags = line
line_at line (Put token) = line_put line token
line_at line EndGame = []
line_at line DropLine = []

-- what has been written, and the current line
pub record Laid : Type 0 where
  pub written : List ℕ
  pub line : List ℕ

-- what calls have written one after another, and the current line, beginning with a line
abbrev pub laid_from : List ℕ → List Call → Laid
laid_from line [] = record { written = []; line = line }
laid_from line (c ∷ cs) =
    record { written = text_at line c ++ (laid_from (line_at line c) cs).written; line = (laid_from (line_at line c) cs).line }

-- How a call that writes fails, with the flag of a failure before and after it. After a failure it
-- fails again, and the sink stays as it was. Before one it fails only if the sink counts a
-- failure in this call, and has failed from then on.
pub record Fails {A E S : Type 0} (failures : S → ℕ) (old new : Bool) (out_old out_new : S) (result : Result A E) : Type 0 where
  pub again : IsTrue old → IsErr result × (out_new ≡ out_old)
  pub counted : old ≡ false → Counts result (failures out_old) (failures out_new)
  pub flag : MatchResult result (λ _. new ≡ false) (λ _. new ≡ true)
