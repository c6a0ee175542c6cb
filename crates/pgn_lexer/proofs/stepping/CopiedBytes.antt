-- How far a loop has copied bytes of a piece into a buffer.
use Rattle.pgn_lexer.proofs.Words.{◌≡◌, ℕ, ◌+◌, ◌-◌, ◌<◌, ◌≤◌, true, List, length, get_or, take, drop, arith, common_steps, length-take-le, length-drop, get_or-take, get_or-drop, Text, BeginsWithEscape, is_escaped, rules}

-- It began at `from`, is at `used` and ends at `end`. The buffer holds `held` bytes, and has room
-- for the rest: at most `most` in all.
pub record Copied (from used end : ℕ) (piece : List ℕ) (held most : ℕ) : Type 0 where
  pub since : from ≤ used
  pub within : used ≤ end
  pub whole : end ≤ length piece
  pub room : held + (end - used) ≤ most

-- It goes on to `now`. Each byte that it uses adds at most one to the buffer.
pub copied_on : {from used end held most : ℕ} {piece : List ℕ} (now now_held : ℕ) → Copied from used end piece held most
    → used ≤ now → now ≤ end → now_held + used ≤ held + now → Copied from now end piece now_held most
copied_on now now_held so more within fewer = grind (arith, common_steps)

-- an escape with which the bytes from one index to another begin
pub record EscapeAt (piece : List ℕ) (from to : ℕ) : Type 0 where
  pub within : from + 1 < to
  pub backslash : get_or piece from 0 ≡ 92
  pub escaped : is_escaped (get_or piece (from + 1) 0) ≡ true

pub escape_at : (t : Text) (piece : List ℕ) (from to : ℕ) → from ≤ to → to ≤ length piece → BeginsWithEscape t (take (to - from) (drop from piece))
    → EscapeAt piece from to
escape_at t piece from to some within h = search (rules, length-take-le, length-drop, get_or-take, get_or-drop)
