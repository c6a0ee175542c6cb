-- Worked rows of movetext: what is written for moves, variations and comments, and how it ends.
use Rattle.worked_rows.proofs.Words.{LexReason, String, ℕ, [], ◌++◌, refl, codes, replicate, Full, Lexical, BadFen, SetUpWithoutFen, TagInMovetext, NotAMove, IllegalMove, AmbiguousMove, MoveLimit, NoMoveBefore, TooDeep, UnmatchedClose, MarkerInVariation, ResultDiffers, UnexpectedEnd, Profile, counts_as, Verdict, totals}
use Rattle.worked_rows.proofs.WorkedRows.{plain, reduced, Gives, BytesGive, fault, unknown, head, of_moves}

abbrev not_deep : Profile
not_deep = record { tags = 64; depth = 0; mode = Full; missing_result = counts_as (codes "*") }

abbrev one_deep : Profile
one_deep = record { tags = 4; depth = 1; mode = Full; missing_result = counts_as (codes "*") }

abbrev two_deep : Profile
two_deep = record { tags = 4; depth = 2; mode = Full; missing_result = counts_as (codes "*") }

-- one game with so many moves outside variations
abbrev pub played : ℕ → Verdict
played plies = totals (record { games = 1; plies = plies })

-- what is written of a move from a position
abbrev FenGives : String → String → String → Type 0
FenGives fen move text =
    let tag = codes "[FEN \"" ++ codes fen ++ codes "\"]\n" in
    BytesGive plain (tag ++ codes move ++ codes " *") (played 1)
    (unknown ++ codes "[Result \"*\"]\n" ++ tag ++ codes "[SetUp \"1\"]\n\n" ++ codes text ++ codes " *\n\n")

movetext : Unit {0}
unfolding of_moves
movetext =
    let one_move : Gives plain "1. e4 *" (played 1) (head ++ codes "1. e4 *\n\n") = (refl, refl) in
    let illegal_king_move : Gives plain "1. e4 e5 2. Ke3 *" (fault 12 IllegalMove) head = (refl, refl) in
    let suffix_glyph : Gives plain "1.e4! e5 *" (played 2) (head ++ codes "1. e4 $1 1... e5 *\n\n") = (refl, refl) in
    let empty_comment : Gives plain "1. e4 {} e5 *" (played 2) (head ++ codes "1. e4 { } 1... e5 *\n\n") = (refl, refl) in
    let glyph_first : Gives plain "$7 e4 *" (played 1) (head ++ codes "$7 1. e4 *\n\n") = (refl, refl) in
    let clock_comments : Gives plain "1. e4 {[%clk 0:03:00]} 1... e5 {[%clk 0:03:00]} *" (played 2)
    (head ++ codes "1. e4 { [%clk 0:03:00] } 1... e5 { [%clk 0:03:00] } *\n\n") = (refl, refl) in
    let noisy_numbers : Gives plain "7. e4 ... d5 9 ed5 *" (played 3) (head ++ codes "1. e4 d5 2. exd5 *\n\n") = (refl, refl) in
    let sibling_variations : Gives plain "1. e4 (1. d4 d5) (1. c4) e5 *" (played 2) (head ++ codes "1. e4 ( 1. d4 d5 ) ( 1. c4 ) 1... e5 *\n\n") =
    (refl, refl) in
    let variation_of_black : Gives plain "1. e4 e5 (1... c5 2. Nf3) 2. Nf3 *" (played 3) (head ++ codes "1. e4 e5 ( 1... c5 2. Nf3 ) 2. Nf3 *\n\n") =
    (refl, refl) in
    let variation_of_black_reduced : Gives reduced "1. e4 e5 (1... c5 2. Nf3) 2. Nf3 *" (played 3) (head ++ codes "1. e4 e5 2. Nf3 *\n\n") =
    (refl, refl) in
    let empty_variation : Gives plain "1. e4 () e5 *" (played 2) (head ++ codes "1. e4 ( ) 1... e5 *\n\n") = (refl, refl) in
    let variation_at_once : Gives plain "1. e4 ((d4)) *" (fault 7 NoMoveBefore) head = (refl, refl) in
    let marker_in_variation : Gives plain "1. e4 (1. d4 1-0 ) *" (fault 13 MarkerInVariation) head = (refl, refl) in
    let ends_in_variation : Gives plain "1. e4 (1. d4" (fault 12 UnexpectedEnd) head = (refl, refl) in
    let too_deep : Gives one_deep "1. e4 (1. d4 (1. c4)) *" (fault 13 TooDeep) head = (refl, refl) in
    let deep_enough : Gives two_deep "1. e4 (1. d4 (1. c4)) *" (played 1) (head ++ codes "1. e4 ( 1. d4 ( 1. c4 ) ) *\n\n") = (refl, refl) in
    let no_depth : Gives not_deep "1. e4 (1. d4) *" (fault 6 TooDeep) head = (refl, refl) in
    let reduced_mode : Gives reduced "[ECO \"C20\"] 1. e4 $1 {good} (1. d4) e5 *" (played 2) (head ++ codes "1. e4 e5 *\n\n") = (refl, refl) in
    let castling : Gives plain "[FEN \"r3k2r/8/8/8/8/8/8/R3K2R w KQkq - 0 1\"]\n0-0 0-0-0 *" (played 2)
    (unknown ++ codes "[Result \"*\"]\n[FEN \"r3k2r/8/8/8/8/8/8/R3K2R w KQkq - 0 1\"]\n[SetUp \"1\"]\n\n1. O-O O-O-O *\n\n") = (refl, refl) in
    let castling_through_attack : Gives plain "[FEN \"4k3/8/8/8/8/5r2/8/4K2R w K - 0 1\"]\nO-O *" (fault 41 IllegalMove) [] = (refl, refl) in
    let bare_promotion : FenGives "8/P6k/8/8/8/8/8/K7 w - - 0 1" "a8Q" "1. a8=Q" = (refl, refl) in
    let no_promotion : Gives plain "[FEN \"8/P6k/8/8/8/8/8/K7 w - - 0 1\"]\na8 *" (fault 37 IllegalMove) [] = (refl, refl) in
    let number_limit : Gives plain "[FEN \"4k3/8/8/8/8/8/8/4K3 b - - 0 99999\"]\nKd8 *" (fault 42 MoveLimit) [] = (refl, refl) in
    let number_at_limit : FenGives "4k3/8/8/8/8/8/8/4K3 w - - 0 99999" "Kd1" "99999. Kd1" = (refl, refl) in
    let en_passant_played : FenGives "4k3/8/8/8/3pP3/8/8/4K3 b - e3 0 1" "dxe3" "1... dxe3" = (refl, refl) in
    let en_passant_discovers : Gives plain "[FEN \"8/8/8/K2pP2r/8/8/8/7k w - d6 0 1\"]\nexd6 *" (fault 41 IllegalMove) [] = (refl, refl) in
    let three_queens : FenGives "1k6/8/8/8/4Q2Q/8/8/K6Q w - - 0 1" "Qh4e1" "1. Qh4e1" = (refl, refl) in
    let three_queens_by_file : Gives plain "[FEN \"1k6/8/8/8/4Q2Q/8/8/K6Q w - - 0 1\"]\nQhe1 *" (fault 41 AmbiguousMove) [] = (refl, refl) in
    let pinned_rival : FenGives "4k3/8/8/8/1b6/2N5/8/4K1N1 w - - 0 1" "Nge2" "1. Ne2" = (refl, refl) in
    let stalemate : FenGives "7k/5K2/8/8/8/8/8/6Q1 w - - 0 1" "Qg6" "1. Qg6" = (refl, refl) in
    let pinned_answer : FenGives "7k/6np/8/8/8/8/1B6/K3R3 w - - 0 1" "Re8" "1. Re8#" = (refl, refl) in
    let en_passant_answer : FenGives "3R1R2/4K3/8/4k3/4p3/8/3P4/8 w - - 0 1" "d4#" "1. d4+" = (refl, refl) in
    let start_comment : Gives plain "{intro} [White \"A\"] {start} 1. e4 *{after}" (played 1)
    (codes
    "[Event \"?\"]\n[Site \"?\"]\n[Date \"????.??.??\"]\n[Round \"?\"]\n[White \"A\"]\n[Black \"?\"]\n[Result \"*\"]\n\n{ start } 1. e4 *\n\n") =
    (refl, refl) in
    let long_word : BytesGive plain (codes "1. e4 {" ++ replicate 79 119 ++ codes "} *") (played 1)
    (head ++ codes "1. e4 {\n" ++ replicate 79 119 ++ codes "\n} *\n\n") = (refl, refl) in
    let word_too_long : BytesGive plain (codes "1. e4 {" ++ replicate 80 119 ++ codes "} *") (fault 7 (Lexical LexReason.WordTooLong)) head =
    (refl, refl) in
    let set_up_is_added : Gives plain "[FEN \"4k3/8/8/8/8/8/8/4K3 w - - 0 1\"]\n*" (played 0)
    (unknown ++ codes "[Result \"*\"]\n[FEN \"4k3/8/8/8/8/8/8/4K3 w - - 0 1\"]\n[SetUp \"1\"]\n\n*\n\n") = (refl, refl) in
    let set_up_is_mended : Gives plain "[SetUp \"0\"][FEN \"4k3/8/8/8/8/8/8/4K3 w - - 0 1\"] *" (played 0)
    (unknown ++ codes "[Result \"*\"]\n[FEN \"4k3/8/8/8/8/8/8/4K3 w - - 0 1\"]\n[SetUp \"1\"]\n\n*\n\n") = (refl, refl) in
    let set_up_alone : Gives plain "[SetUp \"0\"] *" (played 0) (unknown ++ codes "[Result \"*\"]\n[SetUp \"0\"]\n\n*\n\n") = (refl, refl) in
    let set_up_in_order : Gives plain "[Zeta \"z\"][FEN \"4k3/8/8/8/8/8/8/4K3 w - - 0 1\"][ECO \"A00\"]*" (played 0)
    (unknown ++ codes "[Result \"*\"]\n[ECO \"A00\"]\n[FEN \"4k3/8/8/8/8/8/8/4K3 w - - 0 1\"]\n[SetUp \"1\"]\n[Zeta \"z\"]\n\n*\n\n") =
    (refl, refl) in
    let set_up_is_kept : Gives plain "[SetUp \"1\"]\n[FEN \"4k3/8/8/8/8/8/8/4K3 w - - 0 1\"] *" (played 0)
    (unknown ++ codes "[Result \"*\"]\n[FEN \"4k3/8/8/8/8/8/8/4K3 w - - 0 1\"]\n[SetUp \"1\"]\n\n*\n\n") = (refl, refl) in
    let bad_fen : Gives plain "[FEN \"x\"]" (fault 5 (BadFen 1)) [] = (refl, refl) in
    let set_up_without_fen : Gives plain "[SetUp \"1\"] *" (fault 12 SetUpWithoutFen) [] = (refl, refl) in
    let set_up_without_fen_at_a_comment : Gives plain "[SetUp \"1\"]{a} *" (fault 11 SetUpWithoutFen) [] = (refl, refl) in
    let set_up_at_the_end : Gives plain "[SetUp \"1\"]" (fault 11 UnexpectedEnd) [] = (refl, refl) in
    let tag_in_movetext : Gives plain "e4 [A \"1\"] *" (fault 3 TagInMovetext) head = (refl, refl) in
    let tag_after_a_number : Gives plain "1 [A \"x\"] *" (fault 2 TagInMovetext) head = (refl, refl) in
    let no_move_later : Gives plain "e4 e9 *" (fault 3 NotAMove) head = (refl, refl) in
    let variation_before_a_move : Gives plain "1. (e4) *" (fault 3 NoMoveBefore) head = (refl, refl) in
    let one_too_many_closed : Gives plain "e4 ) *" (fault 3 UnmatchedClose) head = (refl, refl) in
    let asterisk_in_variation : Gives plain "e4 (d4 *" (fault 7 MarkerInVariation) head = (refl, refl) in
    let ends_in_movetext : Gives plain "1. e4" (fault 5 UnexpectedEnd) head = (refl, refl) in
    let ends_at_a_number : Gives plain "1" (fault 1 UnexpectedEnd) head = (refl, refl) in
    let marker_differs_in_movetext : Gives plain "e4 1-0 *" (fault 3 ResultDiffers) head = (refl, refl) in
    let fools_mate : Gives plain "[Result \"0-1\"]\nf3 e5 g4 Qh4 0-1" (played 4)
    (unknown ++ codes "[Result \"0-1\"]\n\n1. f3 e5 2. g4 Qh4# 0-1\n\n") = (refl, refl) in
    let inside_a_variation : Gives plain "e4 e5 (c5 Nf3 (c3 d5) d6) Nf3 Nc6 *" (played 4)
    (head ++ codes "1. e4 e5 ( 1... c5 2. Nf3 ( 2. c3 d5 ) 2... d6 ) 2. Nf3 Nc6 *\n\n") = (refl, refl) in
    let rank_joined_to_a_move : Gives plain "2e4 *" (played 1) (head ++ codes "1. e4 *\n\n") = (refl, refl) in
    let number_joined_to_a_move : Gives plain "1e4 *" (fault 0 IllegalMove) [] = (refl, refl) in
    let digits_joined_to_a_move : Gives plain "12e4 *" (fault 0 NotAMove) [] = (refl, refl) in
    let line_before_a_fault : BytesGive plain (codes "e4 {" ++ replicate 72 119 ++ codes " x} e5 Ke3 *") (fault 83 IllegalMove)
    (head ++ codes "1. e4 {\n" ++ replicate 72 119 ++ codes " x }\n") = (refl, refl) in
    let word_at_the_end : BytesGive plain (codes "1. e4 {" ++ replicate 79 119) (fault 86 (Lexical LexReason.UnclosedComment))
    (head ++ codes "1. e4 {\n") = (refl, refl) in
    let position_does_not_carry_over : Gives plain "[FEN \"4k3/8/8/8/8/8/8/4K3 w - - 0 1\"] Ke2 * e4 (d4) e5 *"
    (totals (record { games = 2; plies = 3 }))
    (unknown ++ codes "[Result \"*\"]\n[FEN \"4k3/8/8/8/8/8/8/4K3 w - - 0 1\"]\n[SetUp \"1\"]\n\n1. Ke2 *\n\n"
    ++ head ++ codes "1. e4 ( 1. d4 ) 1... e5 *\n\n") = (refl, refl) in
    let second_game_refused : Gives plain "1. e4 * 1. e4 Ke7 *" (fault 14 IllegalMove) (head ++ codes "1. e4 *\n\n" ++ head) = (refl, refl) in
    -- a line holds 79 bytes, and no more (PGN 8.2.1)
    let line_of_79_bytes : BytesGive plain (codes "1. e4 {" ++ replicate 71 119 ++ codes "} *") (played 1)
    (head ++ codes "1. e4 { " ++ replicate 71 119 ++ codes "\n} *\n\n") = (refl, refl) in
    let line_of_80_bytes : BytesGive plain (codes "1. e4 {" ++ replicate 72 119 ++ codes "} *") (played 1)
    (head ++ codes "1. e4 {\n" ++ replicate 72 119 ++ codes " } *\n\n") = (refl, refl) in
    let last_line_of_79_bytes : BytesGive plain (codes "1. e4 {" ++ replicate 67 119 ++ codes "} *") (played 1)
    (head ++ codes "1. e4 { " ++ replicate 67 119 ++ codes " } *\n\n") = (refl, refl) in
    let last_line_of_80_bytes : BytesGive plain (codes "1. e4 {" ++ replicate 68 119 ++ codes "} *") (played 1)
    (head ++ codes "1. e4 { " ++ replicate 68 119 ++ codes " }\n*\n\n") = (refl, refl) in
    tt
