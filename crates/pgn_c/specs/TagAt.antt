-- **Definition**: the tag pair on a line of a text, as C gets it (PGN 8.1).
use Rattle.std.specs.Prelude.{◌≡◌, ◌⊎◌, ℕ, ◌+◌, ◌≤◌, List, ◌++◌, length, drop, IsTrue}
use Rattle.std.specs.List.{list_all}
use Rattle.pgn_layout.specs.TagLine.{escaped, tag_line}
use Rattle.pgn_game.specs.games.FaultTable.{in_name}
use Rattle.pgn_c.specs.declared.tag.PgnTag.{PgnTag}

-- The text begins with the line of this tag pair. Its name is 1 to 255 letters, digits and
-- underscores. Its value may have any bytes, and the line has a backslash before each quote and
-- backslash of it.
pub record BeginsWithTag (text name value : List ℕ) : Type 0 where
  pub rest : List ℕ
  pub line : text ≡ tag_line name value ++ rest
  pub name_bytes : IsTrue (list_all in_name name)
  pub some_name : 1 ≤ length name
  pub short_name : length name ≤ 255

-- where name and value are if the line of the pair begins at this place
abbrev pub tag_of : ℕ → List ℕ → List ℕ → PgnTag
tag_of at name value =
    record {
      status = 0;
      name_at = at + 1;
      name_length = length name;
      value_at = at + length name + 3;
      value_length = length (escaped value);
      next = at + length (tag_line name value);
    }

-- the result that no such line begins there
abbrev pub no_tag : PgnTag
no_tag = record { status = 1; name_at = 0; name_length = 0; value_at = 0; value_length = 0; next = 0 }

-- If the line of a tag pair begins at the place, the result has it. If the result is not that there
-- is none, such a line begins there.
pub record TagResult (text : List ℕ) (at : ℕ) (result : PgnTag) : Type 0 where
  pub found : (name value : List ℕ) → BeginsWithTag (drop at text) name value → result ≡ tag_of at name value
  pub only : (result ≡ no_tag) ⊎ ((name : List ℕ) × (value : List ℕ) × BeginsWithTag (drop at text) name value)
