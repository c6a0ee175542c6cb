-- **Definition**: what a byte is in a bad game, and what a text has at its front.
use Rattle.std.specs.Prelude.{ℕ, Bool, false, ◌||◌, nat_le, List, [], ◌∷◌, drop, Option, None, Some, ◌==◌, if◌then◌else◌}
use Rattle.std.specs.List.{prefix_len}
use Rattle.pgn_lexer.specs.Bytes.{is_space, starts_symbol}

-- White space, control bytes and delete. Joined files have them, and byte order marks, before a
-- tag pair.
abbrev pub is_stray : ℕ → Bool
is_stray b = nat_le b 32 || (b == 127)

-- the bytes of a tag's name: letters, digits and _ (95)
abbrev pub is_name_byte : ℕ → Bool
is_name_byte b = starts_symbol b || (b == 95)

-- the text begins with this byte
abbrev pub begins_with : ℕ → List ℕ → Bool
begins_with b [] = false
begins_with b (c ∷ s) = c == b

-- the text behind this byte, if it begins with it
abbrev pub behind_byte : ℕ → List ℕ → Option (List ℕ)
behind_byte b [] = None
behind_byte b (c ∷ s) = if c == b then Some s else None

-- the text behind its white space
abbrev pub behind_space : List ℕ → List ℕ
behind_space s = drop (prefix_len is_space s) s

-- how many bytes of a name the text begins with
abbrev pub name_length : List ℕ → ℕ
name_length s = prefix_len is_name_byte s

-- the text behind a name, if it begins with one
abbrev pub behind_name : List ℕ → Option (List ℕ)
behind_name s = if nat_le 1 (name_length s) then Some (drop (name_length s) s) else None
