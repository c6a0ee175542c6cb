-- **Definition**: what the laws say of lines, and of the calls that write them.
use Rattle.std.specs.Prelude.{◌≡◌, ◌↔◌, ℕ, List, [], ◌∷◌, ◌++◌, map, All}
use Rattle.pgn_layout.specs.Lines.{Lines, IsToken, lines_of, full_lines, last_line, text_of}
use Rattle.pgn_layout.specs.Layout.{Put, EndGame, laid_from}
use Rattle.pgn_layout.specs.LineText.{IsTextOf}

-- tokens have the lines that `lines_of` gives, and no others
abbrev pub TokensDetermineLines : Type 0
TokensDetermineLines = (tokens lines : List (List ℕ)) → All IsToken tokens → Lines tokens lines ↔ (lines ≡ lines_of tokens)

-- what puts write and keep, and what the end of the game adds
abbrev pub LinesAreThosePut : Type 0
LinesAreThosePut =
    (tokens lines : List (List ℕ)) → All IsToken tokens → Lines tokens lines →
    (laid_from [] (map Put tokens) ≡ record { written = text_of (full_lines lines); line = last_line lines })
    × (laid_from [] (map Put tokens ++ EndGame ∷ []) ≡ record { written = text_of lines ++ 10 ∷ []; line = [] })

-- The text of the lines of tokens is these tokens in order, each followed by a space or LF.
abbrev pub LinesKeepTokens : Type 0
LinesKeepTokens =
    (tokens lines : List (List ℕ)) → Lines tokens lines → IsTextOf tokens (text_of lines)

-- So is the text of the lines that `lines_of` computes, also of tokens that are empty or too long.
abbrev pub LinesOfKeepTokens : Type 0
LinesOfKeepTokens = (tokens : List (List ℕ)) → IsTextOf tokens (text_of (lines_of tokens))
