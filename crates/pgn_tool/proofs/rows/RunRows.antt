-- Worked rows: what a job writes for a text, how it ends, and what is told.
use Rattle.pgn_tool.proofs.Words.{◌≡◌, ℕ, List, [], ◌++◌, refl, codes, digits, Full, Reduced, UnexpectedEnd, refusal, roster, verdict, finished_game_line, Job, checking, counting_line, exporting, line, listing, profile_for, status_of, text_for, line_of}
use Rattle.pgn_game.specs.games.Chess.{first_position}

-- the tag section of a game without tag pairs
abbrev pub head : List ℕ
head = codes "[Event \"?\"]\n[Site \"?\"]\n[Date \"????.??.??\"]\n[Round \"?\"]\n[White \"?\"]\n[Black \"?\"]\n[Result \"*\"]\n\n"

-- what a job writes for a text, and its status
abbrev Gives : Job → List ℕ → List ℕ → ℕ → Type 0
Gives job s text status = (text_for job s ≡ text) × (status_of (verdict (profile_for job) s) ≡ status)

-- the usual first position, with LF
abbrev first_fen : List ℕ
first_fen = codes "rnbqkbnr/pppppppp/8/8/8/8/PPPPPPPP/RNBQKBNR w KQkq - 0 1\n"

runs : Unit {0}
unfolding refusal roster digits finished_game_line first_position
runs =
    let marker_alone : Gives (exporting Full) (codes "*") (head ++ codes "*\n\n") 0 = (refl, refl) in
    let roster_alone : Gives (exporting Reduced) (codes "[A \"1\"] *") (head ++ codes "*\n\n") 0 = (refl, refl) in
    let marker_differs : Gives (exporting Full) (codes "* 1-0") (head ++ codes "*\n\n") 1 = (refl, refl) in
    let empty_input : Gives checking [] (codes "games: 0, plies: 0\n") 0 = (refl, refl) in
    let two_games : Gives checking (codes "* *") (codes "games: 2, plies: 0\n") 0 = (refl, refl) in
    let no_line : Gives checking (codes "* 1-0") [] 1 = (refl, refl) in
    let no_game : Gives listing [] [] 0 = (refl, refl) in
    let two_lines : Gives listing (codes "* *") (codes "1\t?\t?\t*\t0\t" ++ first_fen ++ codes "2\t?\t?\t*\t0\t" ++ first_fen) 0 = (refl, refl) in
    let values_in_a_line :
    Gives listing (codes "[White \"A\"] [Black \"B\"] [Result \"1-0\"] 1-0") (codes "1\tA\tB\t1-0\t0\t" ++ first_fen) 0 = (refl, refl) in
    let lines_before_a_fault : Gives listing (codes "* 1-0") (codes "1\t?\t?\t*\t0\t" ++ first_fen) 1 = (refl, refl) in
    let counts : counting_line 12 345 ≡ codes "games: 12, plies: 345\n" = refl in
    let fault_line : line (line_of (record { at = 7; reason = UnexpectedEnd })) ≡ codes "byte 7: unexpected end of input\n" = refl in
    tt
