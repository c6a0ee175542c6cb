-- **Definition**: what in a game may mean something else than what is read.
-- Only what is outside comments, strings and escape lines counts.
-- Letters: b is a byte, s the bytes behind it.
use Rattle.std.specs.Prelude.{ℕ, zero, suc, ◌+◌, Bool, true, false, not, ◌&&◌, ◌||◌, List, [], ◌∷◌, ◌==◌, if◌then◌else◌}
use Rattle.std.specs.List.{prefix_len}
use Rattle.pgn_lexer.specs.Bytes.{continues_symbol, is_digit, is_letter, is_line_end, is_space, is_suffix, starts_symbol}
use Rattle.pgn_lexer.specs.TokensOf.{has_mark}

-- how many bytes there are up to the closing brace (125), with it
abbrev pub to_brace : List ℕ → ℕ
to_brace [] = 0
to_brace (b ∷ s) = if b == 125 then 1 else to_brace s + 1

-- how many bytes are before the end of the line
abbrev pub to_line_end : List ℕ → ℕ
to_line_end s = prefix_len (λ b. not (is_line_end b)) s

-- How many bytes there are up to the closing quote (34), with it. A backslash (92) may be just
-- before them.
abbrev pub to_quote : Bool → List ℕ → ℕ
to_quote escaping [] = 0
to_quote true (b ∷ s) = to_quote false s + 1
to_quote false (b ∷ s) = if b == 34 then 1 else to_quote (b == 92) s + 1

-- How many bytes belong to this one: { (123) ; (59) % (37) " (34) $ (36), and a suffix.
abbrev pub skipped : ℕ → List ℕ → ℕ
skipped b s =
    if b == 123 then to_brace s
    else (if (b == 59) || (b == 37) then to_line_end s
    else (if b == 34 then to_quote false s
    else (if b == 36 then prefix_len is_digit s
    else (if is_suffix b then prefix_len is_suffix s
    else 0))))

-- a NAG or a suffix comes next: $ (36), ! or ?
abbrev pub begins_glyph : List ℕ → Bool
begins_glyph [] = false
begins_glyph (b ∷ s) = if is_space b then begins_glyph s else is_suffix b || (b == 36)

-- a symbol that begins with P (80), as no move of PGN does
abbrev pub unusual_letter : ℕ → Bool
unusual_letter b = b == 80

-- a symbol of so many bytes that may be 0000
abbrev pub unusual_number : ℕ → ℕ → Bool
unusual_number b n = (b == 48) && (n == 4)

-- a comment to the end of the line (59), an escape line (37), or a variation (40) that begins with
-- a NAG
abbrev pub unusual_other : ℕ → List ℕ → Bool
unusual_other b s = (b == 59) || (b == 37) || ((b == 40) && begins_glyph s)

abbrev pub begins_unusual : ℕ → List ℕ → Bool
begins_unusual b s =
    if is_letter b then unusual_letter b
    else (if is_digit b then unusual_number b (prefix_len continues_symbol (b ∷ s))
    else unusual_other b s)

-- how many bytes belong to the symbol, comment, string or other part that this byte begins
abbrev pub belonging : ℕ → List ℕ → ℕ
belonging b s = if starts_symbol b then prefix_len continues_symbol s else skipped b s

-- something unusual is in the bytes behind so many
abbrev pub unusual_behind : ℕ → List ℕ → Bool
unusual_behind n [] = false
unusual_behind (suc n) (b ∷ s) = unusual_behind n s
unusual_behind zero (b ∷ s) = begins_unusual b s || unusual_behind (belonging b s) s

-- A byte order mark is passed over.
abbrev pub is_unusual : List ℕ → Bool
is_unusual s = unusual_behind (if has_mark s then 3 else 0) s
