-- **Bookkeeping**: how the code finds the parts of a tag pair's line, from its front on.
-- `TagAt` says what it finds. Letters: s is the text from some place of the line on, b and c are
-- bytes, n is a number of bytes.
use Rattle.std.specs.Prelude.{ℕ, ◌+◌, Bool, true, false, ◌&&◌, List, [], ◌∷◌, codes, drop, Option, None, Some, option_map, ◌==◌, nat_le, if◌then◌else◌}
use Rattle.std.specs.List.{prefix_len}
use Rattle.pgn_layout.specs.TagLine.{needs_escape}
use Rattle.pgn_game.specs.games.FaultTable.{in_name}
use Rattle.pgn_c.specs.declared.tag.PairLengths.{PairLengths}

-- the text after this prefix, if it begins with it
abbrev pub text_behind : List ℕ → List ℕ → Option (List ℕ)
text_behind [] s = Some s
text_behind (b ∷ front) [] = None
text_behind (b ∷ front) (c ∷ s) = if b == c then text_behind front s else None

-- how many bytes at the front may be in a name
abbrev pub name_length : List ℕ → ℕ
name_length s = prefix_len in_name s

-- one byte more, if there is such a number
abbrev pub one_more : Option ℕ → Option ℕ
one_more o = option_map (λ n. n + 1) o

-- How many bytes of a value are before the quote that ends it, if one does. The Bool says whether a
-- backslash is just before them. After a backslash only a quote or a backslash may come.
abbrev pub length_to_quote : Bool → List ℕ → Option ℕ
length_to_quote escaping [] = None
length_to_quote true (b ∷ s) = if needs_escape b then one_more (length_to_quote false s) else None
length_to_quote false (b ∷ s) = if b == 34 then Some 0 else one_more (length_to_quote (b == 92) s)

-- the same, from the first byte of the value on
abbrev pub value_length : List ℕ → Option ℕ
value_length s = length_to_quote false s

-- The line, from its end to its front: what is after the value, the value, the name. Each is `None`
-- if a part is not there.

abbrev pub pair_to_end : ℕ → ℕ → Option (List ℕ) → Option PairLengths
pair_to_end name value None = None
pair_to_end name value (Some s) = Some (record { name = name; value = value })

abbrev pub pair_behind_value : ℕ → List ℕ → Option ℕ → Option PairLengths
pair_behind_value name s None = None
pair_behind_value name s (Some value) = pair_to_end name value (text_behind (codes "\"]\n") (drop value s))

abbrev pub pair_behind_quote : ℕ → Option (List ℕ) → Option PairLengths
pair_behind_quote name None = None
pair_behind_quote name (Some s) = pair_behind_value name s (value_length s)

abbrev pub pair_behind_name : ℕ → List ℕ → Option PairLengths
pair_behind_name name s =
    if nat_le 1 name && nat_le name 255 then pair_behind_quote name (text_behind (codes " \"") (drop name s)) else None

abbrev pub pair_behind_bracket : Option (List ℕ) → Option PairLengths
pair_behind_bracket None = None
pair_behind_bracket (Some s) = pair_behind_name (name_length s) s

-- the lengths of name and value of the pair with whose line the text begins, if it does
unfoldable pub first_pair : List ℕ → Option PairLengths
first_pair s = pair_behind_bracket (text_behind (codes "[") s)
