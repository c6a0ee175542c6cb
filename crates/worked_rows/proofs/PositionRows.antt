-- The definitions, computed on worked positions.
use Rattle.worked_rows.proofs.Words.{Promotion, ◌≡◌, ℕ, [], ◌∷◌, length, map, refl, Option, None, Some, Bool, true, false, White, Black, Queen, Knight, Pawn, Move, Parts, square, squares}
use Rattle.chess_rules.specs.declared.position.PositionFault.TheVariants.{Kings, PawnOnEdge, KingCapturable, TargetRank, NumberRange}
use Rattle.chess_rules.specs.Position.{position_fault, is_position, initial}
use Rattle.chess_rules.specs.Legal.{legal, is_legal, is_check, is_mate, has_legal_move}
use Rattle.chess_rules.specs.LegalMoves.{every_move, legal_among, legal_moves}
use Rattle.chess_rules.specs.Candidate.{candidates}
use Rattle.worked_rows.proofs.Drawn.{black, position, white, sq, promoting, move}

-- Positions, and the first rule that other parts break.

positions : Unit {0}
unfolding squares
positions =
    let first_position : initial ≡ position "rnbqkbnr/pppppppp/8/8/8/8/PPPPPPPP/RNBQKBNR" White "KQkq" None 0 1 = refl in
    let first_is_position : is_position initial ≡ true = refl in
    let no_kings : position_fault (white "8/8/8/8/8/8/8/8") ≡ Some Kings = refl in
    let two_white_kings : position_fault (white "4k3/8/8/8/8/8/8/K3K3") ≡ Some Kings = refl in
    let two_black_kings : position_fault (white "4k3/4k3/8/8/8/8/8/K7") ≡ Some Kings = refl in
    let pawn_on_first_rank : position_fault (white "4k3/8/8/8/8/8/8/4K2P") ≡ Some PawnOnEdge = refl in
    let pawn_on_last_rank : position_fault (white "4k2p/8/8/8/8/8/8/4K3") ≡ Some PawnOnEdge = refl in
    let king_capturable : position_fault (white "4k3/8/8/8/4R3/8/8/4K3") ≡ Some KingCapturable = refl in
    let king_in_check : position_fault (black "4k3/8/8/8/4R3/8/8/4K3") ≡ None = refl in
    let target_of_other_side : position_fault (position "4k3/8/8/8/8/8/8/4K3" White "" (Some (sq "e3")) 0 1) ≡ Some TargetRank = refl in
    let target_alone : position_fault (position "4k3/8/8/8/8/8/8/4K3" Black "" (Some (sq "e3")) 0 1) ≡ None = refl in
    let clock_too_large : position_fault (position "4k3/8/8/8/8/8/8/4K3" White "" None 100000 1) ≡ Some NumberRange = refl in
    let number_too_large : position_fault (position "4k3/8/8/8/8/8/8/4K3" White "" None 0 100000) ≡ Some NumberRange = refl in
    let largest_numbers : position_fault (position "4k3/8/8/8/8/8/8/4K3" White "" None 99999 99999) ≡ None = refl in
    let rights_alone : position_fault (position "4k3/8/8/8/8/8/8/4K3" White "KQkq" None 0 1) ≡ None = refl in
    let kings_before_pawns : position_fault (white "8/8/8/8/8/8/8/K6P") ≡ Some Kings = refl in
    let pawns_before_check : position_fault (white "4k3/8/8/8/4R3/8/8/4K2P") ≡ Some PawnOnEdge = refl in
    let check_before_target : position_fault (position "4k3/8/8/8/4R3/8/8/4K3" White "" (Some (sq "e3")) 0 1) ≡ Some KingCapturable = refl in
    let target_before_numbers : position_fault (position "4k3/8/8/8/8/8/8/4K3" White "" (Some (sq "e3")) 100000 1) ≡ Some TargetRank = refl in
    tt

-- Pieces and pawns.

pieces_and_pawns : Unit {0}
unfolding squares
pieces_and_pawns =
    let double_step : legal initial (move "e2" "e4")
    ≡ Some (position "rnbqkbnr/pppppppp/8/8/4P3/8/PPPP1PPP/RNBQKBNR" Black "KQkq" (Some (sq "e3")) 0 1) = refl in
    let single_step : legal initial (move "e2" "e3")
    ≡ Some (position "rnbqkbnr/pppppppp/8/8/8/4P3/PPPP1PPP/RNBQKBNR" Black "KQkq" None 0 1) = refl in
    let black_double_step : legal (position "rnbqkbnr/pppppppp/8/8/8/5P2/PPPPP1PP/RNBQKBNR" Black "KQkq" None 0 1) (move "e7" "e5")
    ≡ Some (position "rnbqkbnr/pppp1ppp/8/4p3/8/5P2/PPPPP1PP/RNBQKBNR" White "KQkq" (Some (sq "e6")) 0 2) = refl in
    let knight_move : legal initial (move "g1" "f3")
    ≡ Some (position "rnbqkbnr/pppppppp/8/8/8/5N2/PPPPPPPP/RNBQKB1R" Black "KQkq" None 1 1) = refl in
    let rook_past_target : legal (position "4k3/8/8/8/8/8/8/R3K3" White "" (Some (sq "a6")) 3 1) (move "a1" "a3")
    ≡ Some (position "4k3/8/8/8/8/R7/8/4K3" Black "" None 4 1) = refl in
    let double_step_over_piece : is_legal (white "4k3/8/8/8/8/4n3/4P3/4K3") (move "e2" "e4") ≡ false = refl in
    let pawn_backwards : is_legal (white "4k3/8/8/8/4P3/8/8/4K3") (move "e4" "e3") ≡ false = refl in
    let pawn_ahead_takes : is_legal (white "4k3/8/8/4n3/4P3/8/8/4K3") (move "e4" "e5") ≡ false = refl in
    let pinned_knight : is_legal (white "4k3/8/8/8/1b6/2N5/8/4K1N1") (move "c3" "e2") ≡ false = refl in
    let off_the_board : is_legal initial (record { from = square 8 0; to = square 8 1; promotion = None }) ≡ false = refl in
    let promotion_elsewhere : is_legal initial (promoting "e2" "e4" (Some Promotion.Queen)) ≡ false = refl in
    let bare_promotion : is_legal (white "8/P6k/8/8/8/8/8/K7") (move "a7" "a8") ≡ false = refl in
    let promotes : legal (position "7k/P7/8/8/8/8/8/K7" White "" None 5 1) (promoting "a7" "a8" (Some Promotion.Knight))
    ≡ Some (black "N6k/8/8/8/8/8/8/K7") = refl in
    let black_promotes : legal (position "7k/8/8/8/8/8/p7/1N5K" Black "" None 5 1) (promoting "a2" "b1" (Some Promotion.Rook))
    ≡ Some (position "7k/8/8/8/8/8/8/1r5K" White "" None 0 2) = refl in
    tt

-- En passant.

en_passant : Unit {0}
unfolding squares
en_passant =
    let black_en_passant : legal (position "4k3/8/8/8/3pP3/8/8/4K3" Black "" (Some (sq "e3")) 0 1) (move "d4" "e3")
    ≡ Some (position "4k3/8/8/8/8/4p3/8/4K3" White "" None 0 2) = refl in
    let white_en_passant : legal (position "4k3/8/8/3pP3/8/8/8/4K3" White "" (Some (sq "d6")) 7 1) (move "e5" "d6")
    ≡ Some (black "4k3/8/3P4/8/8/8/8/4K3") = refl in
    let en_passant_discovers : is_legal (position "8/8/8/K2pP2r/8/8/8/7k" White "" (Some (sq "d6")) 0 1) (move "e5" "d6") ≡ false = refl in
    let no_pawn_to_capture : is_legal (position "4k3/8/8/3nP3/8/8/8/4K3" White "" (Some (sq "d6")) 0 1) (move "e5" "d6") ≡ false = refl in
    let own_pawn_to_capture : is_legal (position "4k3/8/8/3PP3/8/8/8/4K3" White "" (Some (sq "d6")) 0 1) (move "e5" "d6") ≡ false = refl in
    let no_target : is_legal (white "4k3/8/8/3pP3/8/8/8/4K3") (move "e5" "d6") ≡ false = refl in
    let own_piece_on_target : is_legal (position "7k/8/3N4/3pP3/8/8/8/4K3" White "" (Some (sq "d6")) 7 1) (move "e5" "d6") ≡ false = refl in
    let en_passant_promotes : is_legal (position "4k3/8/8/3pP3/8/8/8/4K3" White "" (Some (sq "d6")) 7 1) (promoting "e5" "d6" (Some Promotion.Queen))
    ≡ false = refl in
    tt

-- Castling.

castling : Unit {0}
unfolding squares
castling =
    let short_castling : legal (position "r3k2r/8/8/8/8/8/8/R3K2R" White "KQkq" None 0 1) (move "e1" "g1")
    ≡ Some (position "r3k2r/8/8/8/8/8/8/R4RK1" Black "kq" None 1 1) = refl in
    let long_castling : legal (position "4k3/8/8/8/8/8/8/R3K3" White "Q" None 0 1) (move "e1" "c1")
    ≡ Some (position "4k3/8/8/8/8/8/8/2KR4" Black "" None 1 1) = refl in
    let black_short_castling : legal (position "r3k2r/8/8/8/8/8/8/4K3" Black "kQ" None 99999 99999) (move "e8" "g8")
    ≡ Some (position "r4rk1/8/8/8/8/8/8/4K3" White "Q" None 99999 99999) = refl in
    let black_long_castling : legal (position "r3k3/8/8/8/8/8/8/4K3" Black "q" None 99997 99998) (move "e8" "c8")
    ≡ Some (position "2kr4/8/8/8/8/8/8/4K3" White "" None 99998 99999) = refl in
    let castles_out_of_check : is_legal (position "4k3/4r3/8/8/8/8/8/4K2R" White "K" None 0 1) (move "e1" "g1") ≡ false = refl in
    let castles_through_attack : is_legal (position "4k3/8/8/8/8/5r2/8/4K2R" White "K" None 0 1) (move "e1" "g1") ≡ false = refl in
    let castles_into_check : is_legal (position "4k3/8/8/8/8/6r1/8/4K2R" White "K" None 0 1) (move "e1" "g1") ≡ false = refl in
    let castles_without_right : is_legal (position "4k3/8/8/8/8/8/8/4K2R" White "Q" None 0 1) (move "e1" "g1") ≡ false = refl in
    let castles_without_rook : is_legal (position "4k3/8/8/8/8/8/8/4K3" White "K" None 0 1) (move "e1" "g1") ≡ false = refl in
    let castles_without_king : is_legal (position "4k3/8/8/8/8/8/3K4/4N2R" White "K" None 0 1) (move "e1" "g1") ≡ false = refl in
    let black_without_short_right : is_legal (position "4k2r/8/8/8/8/8/8/4K3" Black "KQq" None 0 1) (move "e8" "g8") ≡ false = refl in
    let black_without_long_right : is_legal (position "r3k3/8/8/8/8/8/8/4K3" Black "KQk" None 0 1) (move "e8" "c8") ≡ false = refl in
    let castles_past_attacked_b_file : is_legal (position "1r2k3/8/8/8/8/8/8/R3K3" White "Q" None 0 1) (move "e1" "c1") ≡ true = refl in
    let castles_over_knight_on_b_file : is_legal (position "4k3/8/8/8/8/8/8/RN2K3" White "Q" None 0 1) (move "e1" "c1") ≡ false = refl in
    let rook_takes_rook : legal (position "r3k2r/8/8/8/8/8/8/R3K2R" White "KQkq" None 0 1) (move "a1" "a8")
    ≡ Some (position "R3k2r/8/8/8/8/8/8/4K2R" Black "Kk" None 0 1) = refl in
    let black_rook_takes_rook : legal (position "4k2r/8/8/8/8/8/8/4K2R" Black "KQkq" None 7 1) (move "h8" "h1")
    ≡ Some (position "4k3/8/8/8/8/8/8/4K2r" White "Qq" None 0 2) = refl in
    tt

-- Check, mate and stalemate.

abbrev then : Option Parts → Move → Option Parts
then None m = None
then (Some p) m = legal p m

abbrev mate_after : Option Parts → Bool
mate_after None = false
mate_after (Some p) = is_mate p

abbrev check_after : Option Parts → Bool
check_after None = false
check_after (Some p) = is_check p

abbrev moves_after : Option Parts → Bool
moves_after None = false
moves_after (Some p) = has_legal_move p

mates : Unit {0}
unfolding squares
mates =
    let fools_mate : mate_after (then (then (then (legal initial (move "f2" "f3")) (move "e7" "e5")) (move "g2" "g4")) (move "d8" "h4"))
    ≡ true = refl in
    let en_passant_answers : mate_after (legal (white "3R1R2/4K3/8/4k3/4p3/8/3P4/8") (move "d2" "d4")) ≡ false = refl in
    let en_passant_answers_check : check_after (legal (white "3R1R2/4K3/8/4k3/4p3/8/3P4/8") (move "d2" "d4")) ≡ true = refl in
    let pinned_knight_cannot_answer : mate_after (legal (white "7k/6np/8/8/8/8/1B6/K3R3") (move "e1" "e8")) ≡ true = refl in
    let promotion_answers : mate_after (legal (black "7K/3P4/7k/8/8/8/8/4r3") (move "e1" "e8")) ≡ false = refl in
    let stalemate_has_no_move : moves_after (legal (white "7k/5K2/8/8/8/8/8/6Q1") (move "g1" "g6")) ≡ false = refl in
    let stalemate_is_no_check : check_after (legal (white "7k/5K2/8/8/8/8/8/6Q1") (move "g1" "g6")) ≡ false = refl in
    let stalemate_is_no_mate : is_mate (black "7k/5K2/6Q1/8/8/8/8/8") ≡ false = refl in
    tt

-- Candidates.

piece_candidates : Unit {0}
unfolding squares
piece_candidates =
    let knights_for_f3 : candidates initial Knight (sq "f3") ≡ sq "g1" ∷ [] = refl in
    let pawns_for_e4 : candidates initial Pawn (sq "e4") ≡ sq "c2" ∷ sq "e2" ∷ sq "g2" ∷ [] = refl in
    let queens_for_e1 : candidates (white "1k6/8/8/8/4Q2Q/8/8/K6Q") Queen (sq "e1") ≡ sq "h1" ∷ sq "e4" ∷ sq "h4" ∷ [] = refl in
    let hidden_queen : candidates (white "4k3/8/8/8/8/8/8/K1Q1Q2Q") Queen (sq "f1") ≡ sq "e1" ∷ sq "h1" ∷ [] = refl in
    let pawn_en_passant : candidates (position "4k3/8/8/8/3pP3/8/8/4K3" Black "" (Some (sq "e3")) 0 1) Pawn (sq "e3") ≡ sq "d4" ∷ [] = refl in
    tt

-- How many moves are legal, in positions whose counts are well known.

move_counts : Unit {0}
unfolding squares every_move legal_among
move_counts =
    let first_moves : length (legal_moves initial) ≡ 20 = refl in
    let castling_and_pins : length (legal_moves (position "r3k2r/p1ppqpb1/bn2pnp1/3PN3/1p2P3/2N2Q1p/PPPBBPPP/R3K2R" White "KQkq" None 0 1)) ≡ 48 = refl in
    tt

more_counts : Unit {0}
unfolding squares every_move legal_among
more_counts =
    let rook_ending : length (legal_moves (white "8/2p5/3p4/KP5r/1R3p1k/8/4P1P1/8")) ≡ 14 = refl in
    let answers_to_check : length (legal_moves (position "r3k2r/Pppp1ppp/1b3nbN/nP6/BBP1P3/q4N2/Pp1P2PP/R2Q1RK1" White "kq" None 0 1)) ≡ 6 = refl in
    tt

count_of_promotions : Unit {0}
unfolding squares every_move legal_among
count_of_promotions =
    let promotions_with_capture : length (legal_moves (position "rnbq1k1r/pp1Pbppp/2p5/8/2B5/8/PPP1NnPP/RNBQK2R" White "KQ" None 1 8)) ≡ 44 = refl in
    tt

-- All legal moves, with the positions after them.

lists_of_moves : Unit {0}
unfolding squares every_move legal_among
lists_of_moves =
    let moves_of_a_king : map (λ x. x.mv) (legal_moves (white "7k/8/8/8/8/8/8/K7"))
    ≡ move "a1" "b1" ∷ move "a1" "a2" ∷ move "a1" "b2" ∷ [] = refl in
    let each_promotion : map (λ x. x.mv.promotion) (legal_moves (white "8/5P1k/8/8/8/8/8/K7"))
    ≡ None ∷ None ∷ None ∷ Some Promotion.Queen ∷ Some Promotion.Rook ∷ Some Promotion.Bishop ∷ Some Promotion.Knight ∷ [] = refl in
    tt

single_moves : Unit {0}
unfolding squares every_move legal_among
single_moves =
    let only_move : legal_moves (white "8/8/8/8/8/1k6/8/K7")
    ≡ record { mv = move "a1" "b1"; next = position "8/8/8/8/8/1k6/8/1K6" Black "" None 1 1 } ∷ [] = refl in
    let stalemate : legal_moves (white "8/8/8/8/8/k7/p7/K7") ≡ [] = refl in
    tt
