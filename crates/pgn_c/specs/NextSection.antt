-- **Definition**: where reading goes on behind a bad game, as C gets it.
use Rattle.std.specs.Prelude.{◌≡◌, ℕ, ◌+◌, ◌<◌, ◌≤◌, ◌^◌, Bool, not, List, length, Option, None, Some, IfSome, is_some, unwrap_or, ◌==◌, if◌then◌else◌}
use Rattle.pgn_sections.specs.Pieces.{FindsPlace}
use Rattle.pgn_sections.specs.declared.bad_game.BadGame.{BadGame}
use Rattle.pgn_sections.specs.declared.bad_game.Ends.{Ends}
use Rattle.pgn_sections.specs.declared.bad_game.Ends.TheVariants.{Anywhere, InComments, Nowhere}
use Rattle.pgn_c.specs.declared.next_section.PgnBadGame.{PgnBadGame}
use Rattle.pgn_c.specs.declared.next_section.PgnSection.{PgnSection}

-- which lines can show where the game ends, by the number in C
abbrev pub ends_with_number : ℕ → Option Ends
ends_with_number n =
    if n == 0 then Some Anywhere else if n == 1 then Some InComments else if n == 2 then Some Nowhere else None

-- any number but 0 says yes
abbrev pub is_set : ℕ → Bool
is_set n = not (n == 0)

-- a place, if it is said that there is one
abbrev pub place_if : ℕ → ℕ → Option ℕ
place_if n place = if n == 0 then None else Some place

-- the game that the struct of C says
abbrev pub game_of : Ends → PgnBadGame → BadGame
game_of ends g =
    record {
      begin = g.begin;
      fault = g.fault;
      at = g.at;
      ends = ends;
      has_tags = is_set g.has_tags;
      has_movetext = is_set g.has_movetext;
      is_behind_empty_line = not (is_set g.is_behind_text);
      comment_at = place_if g.has_comment g.comment_at;
      escapes_at = place_if g.has_escapes g.escapes_at;
    }

abbrev pub flag : Bool → ℕ
flag b = if b then 1 else 0

-- the struct of C for a game, with the number of its ends
abbrev pub struct_of : ℕ → BadGame → PgnBadGame
struct_of ends g =
    record {
      begin = g.begin;
      fault = g.fault;
      at = g.at;
      comment_at = unwrap_or g.comment_at 0;
      escapes_at = unwrap_or g.escapes_at 0;
      ends = ends;
      has_tags = flag g.has_tags;
      has_movetext = flag g.has_movetext;
      is_behind_text = flag (not g.is_behind_empty_line);
      has_comment = flag (is_some g.comment_at);
      has_escapes = flag (is_some g.escapes_at);
    }

-- Status 0 has the place. Behind the last piece there is none (4), behind another one it is not
-- known yet (5).
abbrev pub section_result : Bool → Option ℕ → PgnSection
section_result is_last (Some place) = record { status = 0; place = place }
section_result is_last None = record { status = if is_last then 4 else 5; place = 0 }

-- The result is that of the place that is found for the game, which lies above its begin. The
-- struct then has the game behind the lines that were read.
pub record FindsSection (ends : Ends) (old : PgnBadGame) (piece : List ℕ) (is_last : Bool) (new : PgnBadGame) (result : PgnSection) : Type 0 where
  pub found : Option ℕ
  pub place : FindsPlace (game_of ends old) piece is_last found (game_of ends new)
  pub above : IfSome found (λ place. old.begin < place)
  pub answer : result ≡ section_result is_last found
  pub same_begin : new.begin ≡ old.begin
  pub same_fault : new.fault ≡ old.fault
  pub same_ends : new.ends ≡ old.ends

-- nothing was read
abbrev pub rejected : ℕ → PgnSection
rejected status = record { status = status; place = 0 }

pub record IsRejected (status : ℕ) (old new : PgnBadGame) (result : PgnSection) : Type 0 where
  pub game : new ≡ old
  pub answer : result ≡ rejected status

-- Status 3: there are no such ends. Status 6: the piece would end above 2^64. Else a section is
-- looked for.
pub record NextSection (ends : Option Ends) (old : PgnBadGame) (piece : List ℕ) (is_last : Bool) (new : PgnBadGame) (result : PgnSection) : Type 0 where
  pub unknown : ends ≡ None → IsRejected 3 old new result
  pub too_far : (e : Ends) → ends ≡ Some e → 2 ^ 64 ≤ old.at + length piece → IsRejected 6 old new result
  pub finds : (e : Ends) → ends ≡ Some e → old.at + length piece < 2 ^ 64 → FindsSection e old piece is_last new result
