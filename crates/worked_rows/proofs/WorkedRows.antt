-- Worked rows: what is written for an input, and how it ends.
use Rattle.worked_rows.proofs.Words.{LexReason, String, ◌≡◌, ℕ, List, [], ◌∷◌, ◌++◌, refl, codes, replicate, map, Full, Reduced, Lexical, ExpectedName, BadTagName, DuplicateTag, TooManyTags, ExpectedValue, BadResult, TagLineTooLong, ExpectedBracket, ReducedFen, NotAMove, NoMoveBefore, ResultDiffers, UnexpectedEnd, Profile, counts_as, takes_the_marker, move_of, first_position, position_of, text_of_move, play, refusal, rows, no_part, roster, output, verdict, Verdict, refused, totals, digits, squares, agreeing}
use Rattle.pgn_lexer.specs.Tokens as tokens
use Rattle.pgn_game.specs.declared.reason.Reason.{Reason}
use Rattle.pgn_game.specs.games.Reason.{number_of}

abbrev pub plain : Profile
plain = record { tags = 64; depth = 32; mode = Full; missing_result = counts_as (codes "*") }

abbrev two_pairs : Profile
two_pairs = record { tags = 2; depth = 32; mode = Full; missing_result = counts_as (codes "*") }

abbrev pub reduced : Profile
reduced = record { tags = 64; depth = 32; mode = Reduced; missing_result = counts_as (codes "*") }

abbrev reduced_full : Profile
reduced_full = record { tags = 2; depth = 32; mode = Reduced; missing_result = counts_as (codes "*") }

abbrev no_pairs : Profile
no_pairs = record { tags = 0; depth = 32; mode = Full; missing_result = counts_as (codes "*") }

abbrev pub checked : Profile
checked = record { tags = 64; depth = 32; mode = Full; missing_result = takes_the_marker }

-- a verdict and what is written
abbrev pub BytesGive : Profile → List ℕ → Verdict → List ℕ → Type 0
BytesGive p s v text = (verdict p s ≡ v) × (output p s ≡ text)

abbrev pub Gives : Profile → String → Verdict → List ℕ → Type 0
Gives p s v text = BytesGive p (codes s) v text

-- what a row with moves opens
unfoldable pub of_moves : ℕ
unfolding refusal roster move_of play text_of_move position_of first_position squares agreeing digits
of_moves = 0

abbrev pub counted : ℕ → Verdict
counted games = totals (record { games = games; plies = 0 })

abbrev pub fault : ℕ → Reason → Verdict
fault at reason = refused (record { at = at; reason = reason })

-- the six roster lines before Result, with no value
abbrev pub unknown : List ℕ
unknown = codes "[Event \"?\"]\n[Site \"?\"]\n[Date \"????.??.??\"]\n[Round \"?\"]\n[White \"?\"]\n[Black \"?\"]\n"

abbrev pub head : List ℕ
head = unknown ++ codes "[Result \"*\"]\n\n"

tags_and_markers : Unit {0}
unfolding refusal roster
tags_and_markers =
    let empty_input : Gives plain "" (counted 0) [] = (refl, refl) in
    let marker_alone : Gives plain "*" (counted 1) (head ++ codes "*\n\n") = (refl, refl) in
    let marker_differs : Gives plain "1-0" (fault 0 ResultDiffers) [] = (refl, refl) in
    let marker_is_taken : Gives checked "1-0" (counted 1) (unknown ++ codes "[Result \"1-0\"]\n\n1-0\n\n") = (refl, refl) in
    let two_games : Gives plain "[Result \"1-0\"] 1-0 *" (counted 2) (unknown ++ codes "[Result \"1-0\"]\n\n1-0\n\n" ++ head ++ codes "*\n\n") =
    (refl, refl) in
    -- the roster is not sorted, the other names are; a quote and a backslash are escaped
    let tag_order : Gives plain "[b \"2\"][Site \"x\\\"y\\\\z\\q\"][A \"1\"] *" (counted 1)
    (codes "[Event \"?\"]\n[Site \"x\\\"y\\\\z\\\\q\"]\n[Date \"????.??.??\"]\n[Round \"?\"]\n[White \"?\"]\n[Black \"?\"]\n[Result \"*\"]\n[A \"1\"]\n[b \"2\"]\n\n*\n\n") = (
      refl,
      refl,
    ) in
    let reduced_to_the_roster : Gives reduced "[ECO \"C20\"][White \"A\"] *" (counted 1)
    (codes "[Event \"?\"]\n[Site \"?\"]\n[Date \"????.??.??\"]\n[Round \"?\"]\n[White \"A\"]\n[Black \"?\"]\n[Result \"*\"]\n\n*\n\n") =
    (refl, refl) in
    let tag_limit : Gives two_pairs "[A \"1\"][B \"2\"][C \"3\"] *" (fault 14 TooManyTags) [] = (refl, refl) in
    let longest_value : BytesGive plain (codes "[Event \"" ++ replicate 244 118 ++ codes "\"] *") (counted 1)
    (codes "[Event \"" ++ replicate 244 118
    ++ codes "\"]\n[Site \"?\"]\n[Date \"????.??.??\"]\n[Round \"?\"]\n[White \"?\"]\n[Black \"?\"]\n[Result \"*\"]\n\n*\n\n") = (refl, refl) in
    let value_too_long : BytesGive plain (codes "[Event \"" ++ replicate 245 118 ++ codes "\"] *") (fault 7 TagLineTooLong) [] = (refl, refl) in
    let name_too_long : BytesGive plain (91 ∷ (replicate 250 97 ++ codes " \"\"] *")) (fault 1 TagLineTooLong) [] = (refl, refl) in
    let escapes_count : BytesGive plain (codes "[A \"" ++ replicate 124 92 ++ replicate 125 120 ++ codes "\"] *") (fault 3 TagLineTooLong) [] =
    (refl, refl) in
    let dropped_comments : Gives plain "{a}[A {b} \"1\"{c}] *{d}" (counted 1) (unknown ++ codes "[Result \"*\"]\n[A \"1\"]\n\n*\n\n") =
    (refl, refl) in
    let name_expected : Gives plain "[\"A\"]" (fault 1 ExpectedName) [] = (refl, refl) in
    let name_expected_at_end : Gives plain "[" (fault 1 ExpectedName) [] = (refl, refl) in
    let bad_name : Gives plain "[A-B \"x\"]" (fault 1 BadTagName) [] = (refl, refl) in
    let twice : Gives plain "[A \"1\"][A \"2\"]" (fault 8 DuplicateTag) [] = (refl, refl) in
    let value_expected : Gives plain "[A]" (fault 2 ExpectedValue) [] = (refl, refl) in
    let bad_result : Gives plain "[Result \"1\"]" (fault 8 BadResult) [] = (refl, refl) in
    let bracket_expected : Gives plain "[A \"1\" x]" (fault 7 ExpectedBracket) [] = (refl, refl) in
    let fen_in_reduced_mode : Gives reduced "[FEN \"x\"]" (fault 1 ReducedFen) [] = (refl, refl) in
    tt

no_move : Gives plain "e9 *" (fault 0 NotAMove) []
unfolding refusal roster move_of
no_move = (refl, refl)

more_tags_and_markers : Unit {0}
unfolding refusal roster
more_tags_and_markers =
    let result_differs : Gives plain "[Result \"1-0\"] 0-1" (fault 15 ResultDiffers) [] = (refl, refl) in
    let second_game_differs : Gives plain "* 1-0" (fault 2 ResultDiffers) (head ++ codes "*\n\n") = (refl, refl) in
    let ends_after_tags : Gives plain "[A \"1\"]" (fault 7 UnexpectedEnd) [] = (refl, refl) in
    let string_not_closed : Gives plain "[A \"x\n" (fault 3 (Lexical LexReason.UnclosedString)) [] = (refl, refl) in
    let games_before_a_stray_byte : Gives plain "* &" (fault 2 (Lexical LexReason.StrayByte)) (head ++ codes "*\n\n") = (refl, refl) in
    let value_expected_at_end : Gives plain "[A" (fault 2 ExpectedValue) [] = (refl, refl) in
    let bracket_expected_at_end : Gives plain "[A \"1\"" (fault 6 ExpectedBracket) [] = (refl, refl) in
    let name_expected_after_pair : Gives plain "[A \"1\"] [" (fault 9 ExpectedName) [] = (refl, refl) in
    let pairs_do_not_carry_over : Gives plain "[A \"1\"] * [A \"1\"] *" (counted 2)
    (unknown ++ codes "[Result \"*\"]\n[A \"1\"]\n\n*\n\n" ++ unknown ++ codes "[Result \"*\"]\n[A \"1\"]\n\n*\n\n") = (refl, refl) in
    let result_does_not_carry_over : Gives plain "[Result \"1-0\"] 1-0 1-0" (fault 19 ResultDiffers)
    (unknown ++ codes "[Result \"1-0\"]\n\n1-0\n\n") = (refl, refl) in
    let draw : Gives plain "[Result \"1/2-1/2\"] 1/2-1/2" (counted 1) (unknown ++ codes "[Result \"1/2-1/2\"]\n\n1/2-1/2\n\n") = (refl, refl) in
    let loss : Gives plain "[Result \"0-1\"] 0-1" (counted 1) (unknown ++ codes "[Result \"0-1\"]\n\n0-1\n\n") = (refl, refl) in
    let escapes_fit : BytesGive plain (codes "[A \"" ++ replicate 124 92 ++ replicate 124 120 ++ codes "\"] *") (counted 1)
    (unknown ++ codes "[Result \"*\"]\n[A \"" ++ replicate 124 92 ++ replicate 124 120 ++ codes "\"]\n\n*\n\n") = (refl, refl) in
    let bad_and_too_long : BytesGive plain (91 ∷ (replicate 249 97 ++ codes "- \"\"] *")) (fault 1 BadTagName) [] = (refl, refl) in
    let bad_result_and_too_long : BytesGive plain (codes "[Result \"" ++ replicate 245 120 ++ codes "\"]") (fault 8 BadResult) [] = (refl, refl) in
    let stray_byte_in_a_pair : Gives plain "[&" (fault 1 (Lexical LexReason.StrayByte)) [] = (refl, refl) in
    let full_before_fen : Gives reduced_full "[A \"1\"][B \"2\"][FEN \"x\"]" (fault 14 TooManyTags) [] = (refl, refl) in
    let no_pairs_allowed : Gives no_pairs "[A \"1\"] *" (fault 0 TooManyTags) [] = (refl, refl) in
    let empty_value : Gives plain "[Event \"\"] *" (counted 1)
    (codes "[Event \"\"]\n[Site \"?\"]\n[Date \"????.??.??\"]\n[Round \"?\"]\n[White \"?\"]\n[Black \"?\"]\n[Result \"*\"]\n\n*\n\n") =
    (refl, refl) in
    let a_prefix_first : Gives plain "[AB \"1\"][A \"2\"][a \"3\"] *" (counted 1)
    (unknown ++ codes "[Result \"*\"]\n[A \"2\"]\n[AB \"1\"]\n[a \"3\"]\n\n*\n\n") = (refl, refl) in
    let lone_bracket : Gives plain "] *" (fault 0 NotAMove) [] = (refl, refl) in
    let lone_string : Gives plain "\"x\" *" (fault 0 NotAMove) [] = (refl, refl) in
    let comment_after_tags : Gives plain "[A \"1\"]{a} *" (counted 1) (unknown ++ codes "[Result \"*\"]\n[A \"1\"]\n\n{ a } *\n\n") = (refl, refl) in
    let parenthesis : Gives plain "(e4) *" (fault 0 NoMoveBefore) [] = (refl, refl) in
    let result_differs_from_a_pair : Gives checked "[Result \"1-0\"] 0-1" (fault 15 ResultDiffers) [] = (refl, refl) in
    tt

-- the rows of the table stand in the order of their numbers
in_order : map (λ r. number_of r.reason) (rows plain no_part tokens.end)
    ≡ 20 ∷ 21 ∷ 22 ∷ 23 ∷ 24 ∷ 25 ∷ 26 ∷ 27 ∷ 27 ∷ 28 ∷ 30 ∷ 31 ∷ 32 ∷ 33
    ∷ 34 ∷ 35 ∷ 36 ∷ 37 ∷ 38 ∷ 39 ∷ 40 ∷ 41 ∷ 42 ∷ []
in_order = refl
