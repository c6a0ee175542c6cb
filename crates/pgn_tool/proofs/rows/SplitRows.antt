-- Worked rows: the files that a split makes of a text.
use Rattle.pgn_tool.proofs.Words.{◌≡◌, ℕ, List, [], ◌∷◌, ◌++◌, Some, refl, codes, digits, tokens_of, UnmatchedClose, refusal, roster, read, list_profile, FileStep, closed, made, files_of}
use Rattle.pgn_tool.proofs.rows.RunRows.{head}

abbrev Makes : List ℕ → List FileStep → Type 0
Makes s files = files_of (tokens_of s) ≡ files

splits : Unit {0}
unfolding refusal roster digits
splits =
    let no_game : Makes (codes "{no game}") [] = refl in
    let two_games : Makes (codes "* $1 *")
    (made 1 ∷ closed (Some (head ++ codes "*\n\n")) 0 ∷ made 2 ∷ closed (Some (head ++ codes "$1 *\n\n")) 0 ∷ []) = refl in
    -- the second game is at fault before its first byte
    let fault_before_a_byte : Makes (codes "* [Result 5]") (made 1 ∷ closed (Some (head ++ codes "*\n\n")) 0 ∷ []) = refl in
    -- the second game is at fault behind its tag section
    let fault_in_movetext : Makes (codes "* $1 )")
    (made 1 ∷ closed (Some (head ++ codes "*\n\n")) 0 ∷ made 2 ∷ closed (Some head) 0 ∷ []) = refl in
    let its_fault : (read list_profile (tokens_of (codes "* $1 )"))).fault ≡ Some (record { at = 5; reason = UnmatchedClose }) = refl in
    tt
