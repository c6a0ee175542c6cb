-- **Bookkeeping**: what holds of the numbers of a reader of lines.
use Rattle.std.specs.Prelude.{ℕ, ◌≡◌, ◌+◌, ◌<◌, ◌≤◌, ◌^◌, IfSome}
use Rattle.pgn_sections.specs.declared.bad_game.BadGame.{BadGame}
use Rattle.pgn_sections.specs.declared.search.LineReader.{LineReader}

-- the escape lines just before the next line begin before it
abbrev pub HasEscapesBefore : BadGame → Type 0
HasEscapesBefore g = IfSome g.escapes_at (λ escapes. escapes ≤ g.at)

pub record IsSound (r : LineReader) : Type 0 where
  pub at : r.line.at ≡ r.game.at
  pub tag : r.line.tag.at ≤ r.line.length
  pub fits : r.line.at + r.line.length < 2 ^ 64
  pub escapes : HasEscapesBefore r.game
  pub above : IfSome r.found (λ place. r.game.begin < place)
  pub within : IfSome r.found (λ place. place ≤ r.line.at + r.line.length)

-- The next one is of the same game, and has read as many bytes more, or fewer.
pub record Reads (n : ℕ) (old new : LineReader) : Type 0 where
  pub sound : IsSound new
  pub begin : new.game.begin ≡ old.game.begin
  pub within : new.line.at + new.line.length ≤ old.line.at + old.line.length + n
