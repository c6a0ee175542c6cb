-- What forms are read as, computed on worked positions.
use Prim.Native.String.{String}
use Rattle.chess_text.proofs.Words.{◌≡◌, ℕ, true, false, Result, Ok, Err, Option, None, Some, refl, codes, King, Queen, Knight, Pawn, Parts, Square, square, squares, FenFault, Form, Castle, Man, Played, SanFault, NoMove, Ambiguous, read, agreeing, form_pairs, move_of_form}
use Rattle.chess_rules.specs.declared.piece.Promotion.TheVariants as promotions

-- the origin of what is read, the fault, or a text that is no position
data Answer : Type 0 where
  from : Square → Answer
  fault : SanFault → Answer
  no_position : Answer

abbrev answer_of : Result Played SanFault → Answer
answer_of (Ok x) = from x.mv.from
answer_of (Err f) = fault f

abbrev answer_in : Result Parts FenFault → Form → Answer
answer_in (Ok p) f = answer_of (move_of_form p f)
answer_in (Err f) form = no_position

abbrev answer : String → Form → Answer
answer s f = answer_in (read (codes s)) f

abbrev count_in : Result Parts FenFault → Form → ℕ
count_in (Ok p) f = form_pairs p f
count_in (Err e) f = 0

abbrev count : String → Form → ℕ
count s f = count_in (read (codes s)) f

abbrev queens : String
queens = "1k6/8/8/8/4Q2Q/8/8/K6Q w - - 0 1"

abbrev rooks : String
rooks = "r3k2r/8/8/8/8/8/8/R3K2R w KQkq - 0 1"

abbrev knights : String
knights = "4k3/8/8/8/1b6/2N5/8/4K1N1 w - - 0 1"

abbrev bare : String
bare = "8/P6k/8/8/8/8/8/K7 w - - 0 1"

abbrev queen_to_e1 : Option ℕ → Option ℕ → Form
queen_to_e1 file rank = Man Queen file rank (square 4 0) None

answers_to_forms : Unit {0}
unfolding squares agreeing
answers_to_forms =
    let three_queens : answer queens (queen_to_e1 None None) ≡ fault Ambiguous = refl in
    let two_on_the_file : answer queens (queen_to_e1 (Some 7) None) ≡ fault Ambiguous = refl in
    let two_on_the_rank : answer queens (queen_to_e1 None (Some 3)) ≡ fault Ambiguous = refl in
    let one_on_both : answer queens (queen_to_e1 (Some 7) (Some 3)) ≡ from (square 7 3) = refl in
    let none_there : answer queens (queen_to_e1 (Some 0) None) ≡ fault NoMove = refl in
    let three_tried : count queens (queen_to_e1 (Some 7) (Some 3)) ≡ 3 = refl in
    let pinned_rival : answer knights (Man Knight None None (square 4 1) None) ≡ from (square 6 0) = refl in
    let castling : answer rooks (Castle false) ≡ from (square 4 0) = refl in
    let castling_long : answer rooks (Castle true) ≡ from (square 4 0) = refl in
    let castling_attacked : answer "4k3/8/8/8/8/5r2/8/4K2R w K - 0 1" (Castle false) ≡ fault NoMove = refl in
    let rook_for_king : answer "3k4/8/8/8/8/8/8/K3R3 w KQ - 0 1" (Castle false) ≡ fault NoMove = refl in
    let king_two_files : answer rooks (Man King None None (square 6 0) None) ≡ fault NoMove = refl in
    let king_one_file : answer rooks (Man King None None (square 5 0) None) ≡ from (square 4 0) = refl in
    let promotion : answer bare (Man Pawn None None (square 0 7) (Some promotions.Queen)) ≡ from (square 0 6) = refl in
    let no_promotion : answer bare (Man Pawn None None (square 0 7) None) ≡ fault NoMove = refl in
    let en_passant : answer "4k3/8/8/8/3pP3/8/8/4K3 b - e3 0 1" (Man Pawn (Some 3) None (square 4 2) None) ≡ from (square 3 3) = refl in
    let en_passant_discovers : answer "8/8/8/K2pP2r/8/8/8/7k w - d6 0 1" (Man Pawn (Some 4) None (square 3 5) None) ≡ fault NoMove = refl in
    tt
