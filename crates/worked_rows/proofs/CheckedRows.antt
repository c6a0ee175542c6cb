-- Worked rows of inputs that are read twice.
use Rattle.worked_rows.proofs.Words.{String, ◌≡◌, ℕ, ◌+◌, List, [], ◌++◌, None, Some, length, refl, codes, replicate, take, tokens_of, Full, Reduced, ResultDiffers, IllegalMove, UnexpectedEnd, Changed, Profile, Verdict, totals, due, output}
use Rattle.std.specs.Prelude.{drop}
use Rattle.pgn_lexer.specs.Decided.{decided}
use Rattle.pgn_game.specs.public.Checked.{checked_profile, compared, written_by, checked_verdict, checked_output}
use Rattle.pgn_game.specs.public.CheckedConversion.{WriteStops}
use Rattle.pgn_game.specs.public.Conversion.{Decides}
use Rattle.pgn_game.specs.public.ConverterCalls.{AreShown}
use Rattle.pgn_lexer.specs.Tokens.{asterisk}
use Rattle.std.proofs.lemmas.Bool.{leb-true, ltb-true}
use Rattle.worked_rows.proofs.WorkedRows.{counted, fault, head, unknown, of_moves}

abbrev pub twice : Profile
twice = checked_profile 64 32 Full

abbrev twice_reduced : Profile
twice_reduced = checked_profile 64 32 Reduced

-- the verdict on two readings, and what is written
abbrev Gives_of : Profile → String → String → Verdict → List ℕ → Type 0
Gives_of p s r v text = (checked_verdict p (codes s) (codes r) ≡ v) × (checked_output p (codes s) (codes r) ≡ text)

-- the same of two equal readings
abbrev Gives : String → Verdict → List ℕ → Type 0
Gives s v text = Gives_of twice s s v text

-- the tag section of a game without pairs that ends with this marker
abbrev head_of : String → List ℕ
head_of marker = unknown ++ codes "[Result \"" ++ codes marker ++ codes "\"]\n\n"

two_readings : Unit {0}
unfolding of_moves
two_readings =
    let takes_each_marker : Gives "1-0 0-1" (counted 2) (head_of "1-0" ++ codes "1-0\n\n" ++ head_of "0-1" ++ codes "0-1\n\n") = (refl, refl) in
    let keeps_a_result : Gives "[Result \"1-0\"] 0-1" (fault 15 ResultDiffers) [] = (refl, refl) in
    let nothing_of_a_fault : Gives "* 1. e4 e5 2. Ke3 *" (fault 14 IllegalMove) (head ++ codes "*\n\n") = (refl, refl) in
    let nothing_of_an_only_game : Gives "1. e4 e5 2. Ke3 *" (fault 12 IllegalMove) [] = (refl, refl) in
    let first_ends_in_a_game : Gives "1. e4" (fault 5 UnexpectedEnd) [] = (refl, refl) in
    let second_ends_sooner : Gives_of twice "1. e4 *" "1. e4" (fault 5 Changed) head = (refl, refl) in
    let moves_may_differ : Gives_of twice "1. e4 *" "1. d4 *" (totals (record { games = 1; plies = 1 })) (head ++ codes "1. d4 *\n\n") =
    (refl, refl) in
    let second_may_go_on : Gives_of twice "*" "* *" (counted 1) (head ++ codes "*\n\n") = (refl, refl) in
    let marker_taken : Gives "1-0" (counted 1) (head_of "1-0" ++ codes "1-0\n\n") = (refl, refl) in
    let marker_differs : Gives_of twice "1-0" "0-1" (fault 0 Changed) [] = (refl, refl) in
    let place_differs : Gives_of twice "1-0" " 1-0" (fault 1 Changed) [] = (refl, refl) in
    let a_game_fewer : Gives_of twice "* *" "*" (fault 1 Changed) (head ++ codes "*\n\n") = (refl, refl) in
    -- the torn text has the marker of `first` for a missing Result
    let torn_with_the_marker_of_first : Gives_of twice "e4 1-0" "e4 e4 *" (fault 3 Changed) (head_of "1-0") = (refl, refl) in
    -- `first` is rejected at a later place than the one at which `second` differs
    let second_differs_before : Gives_of twice "* * ]" "* 0-1" (fault 2 Changed) (head ++ codes "*\n\n") = (refl, refl) in
    let reduced_twice : Gives_of twice_reduced "[White \"A\"] [ECO \"A00\"] 1-0" "[ECO \"A01\"] 1-0" (fault 12 Changed) [] = (refl, refl) in
    tt

-- Two readings of one text, u ++ x. `first` gives the bytes u alone: all marks are read, and this
-- text is written, as one reading has written it by then.
abbrev FirstStops : List ℕ → List ℕ → List ℕ → Type 0
FirstStops u x text =
    let f = compared twice (decided u) (tokens_of (u ++ x)) in
    (f.fault ≡ None) × (f.markers_left ≡ []) × (written_by twice f ≡ text) × (due twice (decided u) ≡ text)

-- `second` gives u alone: one reading has written `before` by then, and two write `torn` of the
-- current game behind it. The whole output goes on with `after`.
abbrev SecondStops : List ℕ → List ℕ → List ℕ → List ℕ → List ℕ → Type 0
SecondStops u x before torn after =
    let f = compared twice (tokens_of (u ++ x)) (decided u) in
    (f.fault ≡ None) × (due twice (decided u) ≡ before)
    × (written_by twice f ≡ before ++ torn) × (output twice (u ++ x) ≡ before ++ torn ++ after)

first_stops : Unit {0}
unfolding of_moves
first_stops =
    let first_stops_in_a_marker : FirstStops (codes "1-0 0-") (codes "1 *") (head_of "1-0" ++ codes "1-0\n\n") = (refl, refl, refl, refl) in
    let first_stops_in_a_game : FirstStops (codes "* e4 e") (codes "5 *") (head ++ codes "*\n\n") = (refl, refl, refl, refl) in
    -- `first` is rejected at a token that `second` does not read
    let first_stops_behind_a_fault : FirstStops (codes "* ] ") (codes "*") (head ++ codes "*\n\n") = (refl, refl, refl, refl) in
    let second_stops_between_games : SecondStops (codes "1-0 ") (codes "0-1") (head_of "1-0" ++ codes "1-0\n\n") []
    (head_of "0-1" ++ codes "0-1\n\n") = (refl, refl, refl, refl) in
    -- the current game is torn with the marker that `first` has for it
    let second_stops_in_a_game : SecondStops (codes "* e4 e") (codes "5 1-0") (head ++ codes "*\n\n") (head_of "1-0") (codes "1. e4 e5 1-0\n\n") =
    (refl, refl, refl, refl) in
    tt

-- with a full line of movetext
abbrev long : List ℕ
long = replicate 79 97

second_stops : Unit {0}
unfolding of_moves
second_stops =
    let second_stops_behind_a_line : SecondStops (codes "1 {" ++ long ++ codes " b ") (codes "c} 0-1") []
    (head_of "0-1" ++ codes "{\n" ++ long ++ codes "\n") (codes "b c } 0-1\n\n") = (refl, refl, refl, refl) in
    -- `first` is rejected in the game in which `second` stops, which is not written then
    let second_stops_in_a_game_at_fault : SecondStops (codes "* e4 e") (codes "5 ]") (head ++ codes "*\n\n") [] [] = (refl, refl, refl, refl) in
    -- at its first move, the tag section of a game is written
    let written_at_a_move : written_by twice (compared twice (tokens_of (codes "e4 1-0")) (take 1 (tokens_of (codes "e4 1-0"))))
    ≡ head_of "1-0" = refl in
    tt

-- ---- what the bytes of a text show

abbrev two_games : List ℕ
two_games = codes "* *"

-- Both sources give two games. The sink takes four bytes of the second, whose marker is at place 2.
writing_stops : WriteStops twice (record { before = Some two_games; after = Some []; failures = 0; failures_after = 0 }) two_games 2
    (record { before = Some []; after = Some (head ++ codes "*\n\n" ++ take 4 head); failures = 0; failures_after = 1 })
unfolding of_moves
writing_stops =
    record {
      tokens = tokens_of two_games;
      decided_by = Decides.at_end two_games refl (leb-true _ _ refl) refl ([], refl);
      front = take 1 (tokens_of two_games);
      token = record { at = 2; kind = asterisk };
      shown = AreShown.at_end (leb-true _ _ refl) (drop 2 (tokens_of two_games)) refl;
      place = refl;
      fault = refl;
      count = length head + 7;
      least = leb-true _ _ refl;
      short = ltb-true _ _ refl;
      appended = refl;
    }

-- The first token of `second` shows that it is at the only mark of `first`. No token shows nothing.
shown_up_to_the_marker : Unit {0}
unfolding of_moves
shown_up_to_the_marker =
    let by_its_marker : (compared twice (tokens_of (codes "1-0")) (take 1 (tokens_of (codes "1-0 0-1")))).markers_left ≡ [] = refl in
    let not_before_it : length (compared twice (tokens_of (codes "1-0")) []).markers_left ≡ 1 = refl in
    tt
