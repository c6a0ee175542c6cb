-- What texts in UCI are read as, and what is written, computed on worked positions.
use Prim.Native.String.{String}
use Rattle.chess_text.proofs.Words.{◌≡◌, ◌≢◌, true, false, is_legal, Result, Ok, Err, Some, refl, ap, codes, Move, Parts, squares, FenFault, Played, read, is_on_board, uci, move_of_uci, UciIsExact, UciTextsDiffer, WrittenUciIsRead, UciFault, NotAMove, IllegalMove}
use Rattle.chess_rules.specs.declared.piece.Promotion.TheVariants.{Queen, Rook, Bishop, Knight}
use Rattle.chess_text.proofs.names.TextsToMoves.{another}
use Rattle.chess_text.proofs.rows.SanRows.{becoming, go}
use Rattle.chess_text.proofs.rows.TextLawRows.{drawn, knights, queens, c3e2, h4e1, e1c1}

-- the move that is read, the fault, or a FEN of no position
data Answer : Type 0 where
  move : Move → Answer
  fault : UciFault → Answer
  no_position : Answer

abbrev answer_of : Result Played UciFault → Answer
answer_of (Ok x) = move x.mv
answer_of (Err f) = fault f

abbrev answer_in : Result Parts FenFault → String → Answer
answer_in (Ok p) s = answer_of (move_of_uci p (codes s))
answer_in (Err f) s = no_position

abbrev answer : String → String → Answer
answer fen s = answer_in (read (codes fen)) s

abbrev first : String
first = "rnbqkbnr/pppppppp/8/8/8/8/PPPPPPPP/RNBQKBNR w KQkq - 0 1"

abbrev castling : String
castling = "r3k2r/8/8/8/8/8/8/R3K2R w KQkq - 0 1"

abbrev promoting : String
promoting = "1r6/P6k/8/8/8/8/8/K7 w - - 0 1"

abbrev pinned : String
pinned = "4k3/8/8/8/1b6/2N5/8/4K1N1 w - - 0 1"

abbrev HasText : Move → String → Type 0
HasText m s = uci m ≡ codes s

texts_of_moves : Unit {0}
texts_of_moves =
    let pawn : HasText (go "e2" "e4") "e2e4" = refl in
    let corners : HasText (go "a1" "h8") "a1h8" = refl in
    let queen : HasText (becoming "a7" "a8" (Some Queen)) "a7a8q" = refl in
    let rook : HasText (becoming "h2" "g1" (Some Rook)) "h2g1r" = refl in
    let bishop : HasText (becoming "b7" "b8" (Some Bishop)) "b7b8b" = refl in
    let knight : HasText (becoming "c2" "c1" (Some Knight)) "c2c1n" = refl in
    tt

answers_to_texts : Unit {0}
unfolding squares
answers_to_texts =
    let white : answer first "e2e4" ≡ move (go "e2" "e4") = refl in
    let black : answer "rnbqkbnr/pppppppp/8/8/4P3/8/PPPP1PPP/RNBQKBNR b KQkq e3 0 1" "e7e5" ≡ move (go "e7" "e5") = refl in
    let knight : answer first "g1f3" ≡ move (go "g1" "f3") = refl in
    let promotion : answer promoting "a7a8q" ≡ move (becoming "a7" "a8" (Some Queen)) = refl in
    let promotion_by_capture : answer promoting "a7b8n" ≡ move (becoming "a7" "b8" (Some Knight)) = refl in
    let en_passant : answer "4k3/8/8/8/3pP3/8/8/4K3 b - e3 0 1" "d4e3" ≡ move (go "d4" "e3") = refl in
    let castling_short : answer castling "e1g1" ≡ move (go "e1" "g1") = refl in
    let castling_long : answer castling "e1c1" ≡ move (go "e1" "c1") = refl in
    let castling_short_of_black : answer "r3k2r/8/8/8/8/8/8/R3K2R b KQkq - 0 1" "e8g8" ≡ move (go "e8" "g8") = refl in
    let castling_long_of_black : answer "r3k2r/8/8/8/8/8/8/R3K2R b KQkq - 0 1" "e8c8" ≡ move (go "e8" "c8") = refl in
    let rook_on_the_kings_square : answer "3k4/8/8/8/8/8/8/K3R3 w KQ - 0 1" "e1g1" ≡ move (go "e1" "g1") = refl in
    let king_step : answer castling "e1f1" ≡ move (go "e1" "f1") = refl in
    let beside_the_pinned : answer pinned "g1e2" ≡ move (go "g1" "e2") = refl in
    tt

illegal_moves : Unit {0}
unfolding squares
illegal_moves =
    let too_far : answer first "e2e5" ≡ fault IllegalMove = refl in
    let other_side : answer first "e7e5" ≡ fault IllegalMove = refl in
    let nothing_there : answer first "e4e5" ≡ fault IllegalMove = refl in
    let same_square : answer first "e2e2" ≡ fault IllegalMove = refl in
    let no_rights : answer "r3k2r/8/8/8/8/8/8/R3K2R w - - 0 1" "e1g1" ≡ fault IllegalMove = refl in
    let through_attack : answer "4k3/8/8/8/8/5r2/8/4K2R w K - 0 1" "e1g1" ≡ fault IllegalMove = refl in
    let onto_the_rook : answer castling "e1h1" ≡ fault IllegalMove = refl in
    let no_letter : answer promoting "a7a8" ≡ fault IllegalMove = refl in
    let letter_of_a_king : answer promoting "a1b1q" ≡ fault IllegalMove = refl in
    let letter_of_a_knight : answer pinned "g1e2q" ≡ fault IllegalMove = refl in
    let letter_of_castling : answer castling "e1g1q" ≡ fault IllegalMove = refl in
    let pinned_knight : answer pinned "c3e2" ≡ fault IllegalMove = refl in
    let en_passant_discovers : answer "8/8/8/K2pP2r/8/8/8/7k w - d6 0 1" "e5d6" ≡ fault IllegalMove = refl in
    tt

no_moves : Unit {0}
unfolding squares
no_moves =
    let empty : answer first "" ≡ fault NotAMove = refl in
    let three_bytes : answer first "e2e" ≡ fault NotAMove = refl in
    let five_bytes : answer first "e2-e4" ≡ fault NotAMove = refl in
    let six_bytes : answer promoting "a7a8q " ≡ fault NotAMove = refl in
    let sign : answer promoting "a7a8=q" ≡ fault NotAMove = refl in
    let capitals : answer first "E2E4" ≡ fault NotAMove = refl in
    let capital_letter : answer promoting "a7a8Q" ≡ fault NotAMove = refl in
    let to_a_king : answer promoting "a7a8k" ≡ fault NotAMove = refl in
    let to_a_pawn : answer promoting "a7a8p" ≡ fault NotAMove = refl in
    let null_move : answer first "0000" ≡ fault NotAMove = refl in
    let file_i : answer first "i2e4" ≡ fault NotAMove = refl in
    let rank_9 : answer first "e2e9" ≡ fault NotAMove = refl in
    let san : answer first "Nf3" ≡ fault NotAMove = refl in
    let castling_of_san : answer castling "O-O" ≡ fault NotAMove = refl in
    tt

-- The laws, each applied as it is stated.

abbrev before_castling : Parts
before_castling = drawn castling

abbrev castled : Parts
castled = drawn "r3k2r/8/8/8/8/8/8/2KR3R b kq - 1 1"

written_uci_is_read : WrittenUciIsRead → Unit {0}
unfolding squares
written_uci_is_read law =
    let castling_long : move_of_uci before_castling (codes "e1c1") ≡ Ok (record { mv = e1c1; next = castled }) =
    law before_castling castled e1c1 refl in
    -- Without a legal move: the text of the pinned knight's move is read as no move.
    let pinned_is_illegal : is_legal knights c3e2 ≡ false = refl in
    let pinned_unread : move_of_uci knights (uci c3e2) ≡ Err IllegalMove = refl in
    tt

uci_texts_differ : UciTextsDiffer → Unit {0}
unfolding squares
uci_texts_differ law =
    let other_queen = go "e4" "e1" in
    let of_two_queens : codes "h4e1" ≢ codes "e4e1" = law queens h4e1 other_queen refl refl (another h4e1 other_queen refl) in
    let p = drawn promoting in
    let q = becoming "a7" "a8" (Some Queen) in
    let n = becoming "a7" "a8" (Some Knight) in
    let of_two_promotions : codes "a7a8q" ≢ codes "a7a8n" = law p q n refl refl (λ same. let other = ap (λ (x : Move). x.promotion) same in cc) in
    tt

uci_is_exact : UciIsExact → Unit {0}
unfolding squares
uci_is_exact law =
    let is_read : move_of_uci before_castling (codes "e1c1") ≡ Ok (record { mv = e1c1; next = castled }) =
    (law.legal_move before_castling (codes "e1c1") (record { mv = e1c1; next = castled })).1 (refl, refl) in
    let pinned_is_illegal : move_of_uci knights (codes "c3e2") ≡ Err IllegalMove =
    (law.illegal_move knights (codes "c3e2")).1 (c3e2, refl, refl, refl) in
    let null_move : (m : Move) → is_on_board m ≡ true → codes "0000" ≢ uci m = (law.no_move knights (codes "0000")).0 refl in
    tt
