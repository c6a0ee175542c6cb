-- The texts of worked moves.
use Prim.Native.String.{String}
use Rattle.chess_text.proofs.Words.{◌≡◌, ℕ, ◌-◌, List, [], ◌∷◌, Option, None, Some, refl, ◌∙◌, codes, Result, Ok, Err, Promotion, Move, Parts, Square, square, squares, legal, FenFault, read, san}
use Rattle.chess_rules.specs.declared.piece.Promotion.TheVariants.{Queen, Knight}
use Rattle.chess_text.proofs.rows.MovesOfPieces.{san_is_tried, san_tried}

-- a square by its letter and its digit
abbrev square_by : List ℕ → Square
square_by (f ∷ r ∷ []) = square (f - 97) (r - 49)
square_by other = square 9 9

abbrev pub named : String → Square
named s = square_by (codes s)

abbrev pub becoming : String → String → Option Promotion → Move
becoming s t q = record { from = named s; to = named t; promotion = q }

abbrev pub go : String → String → Move
go s t = becoming s t None

abbrev then_play : Option Parts → Move → Option Parts
then_play None m = None
then_play (Some p) m = legal p m

abbrev placed : Result Parts FenFault → Option Parts
placed (Ok p) = Some p
placed (Err fault) = None

abbrev fen : String → Option Parts
fen s = placed (read (codes s))

abbrev text_of : Option Parts → Move → List ℕ
text_of None m = []
text_of (Some p) m = san p m

-- a text with a mark is computed by the moves of pieces alone
abbrev text_tried : Option Parts → Move → List ℕ
text_tried None m = []
text_tried (Some p) m = san_tried p m

tried : (o : Option Parts) (m : Move) (s : List ℕ) → text_tried o m ≡ s → text_of o m ≡ s
tried None m s h = h
tried (Some p) m s h = san_is_tried p m ∙ h

abbrev HasText : Option Parts → Move → String → Type 0
HasText o m s = text_of o m ≡ codes s

abbrev queens : Option Parts
queens = fen "1k6/8/8/8/4Q2Q/8/8/K6Q w - - 0 1"

abbrev rooks : Option Parts
rooks = fen "r3k2r/8/8/8/8/8/8/R3K2R w KQkq - 0 1"

abbrev before_en_passant : Option Parts
before_en_passant = fen "3R1R2/4K3/8/4k3/4p3/8/3P4/8 w - - 0 1"

abbrev before_pinned : Option Parts
before_pinned = fen "7k/6np/8/8/8/8/1B6/K3R3 w - - 0 1"

abbrev before_promoting : Option Parts
before_promoting = fen "7K/3P4/7k/8/8/8/8/4r3 b - - 0 1"

abbrev before_mate : Option Parts
before_mate =
    then_play (then_play (then_play (fen "rnbqkbnr/pppppppp/8/8/8/8/PPPPPPPP/RNBQKBNR w KQkq - 0 1") (go "f2" "f3")) (go "e7" "e5")) (go "g2" "g4")

texts_of_moves : Unit {0}
unfolding squares
texts_of_moves =
    let pinned_rival : HasText (fen "4k3/8/8/8/1b6/2N5/8/4K1N1 w - - 0 1") (go "g1" "e2") "Ne2" = refl in
    let both_told : HasText queens (go "h4" "e1") "Qh4e1" = refl in
    let file_at_end : HasText queens (go "e4" "e1") "Qee1" = refl in
    let rank_at_end : HasText queens (go "h1" "e1") "Q1e1" = refl in
    let en_passant_answer : HasText before_en_passant (go "d2" "d4") "d4+" = tried before_en_passant (go "d2" "d4") _ refl in
    let pinned_answer : HasText before_pinned (go "e1" "e8") "Re8#" = tried before_pinned (go "e1" "e8") _ refl in
    let promoting_answer : HasText before_promoting (go "e1" "e8") "Re8+" = tried before_promoting (go "e1" "e8") _ refl in
    let stalemate : HasText (fen "7k/5K2/8/8/8/8/8/6Q1 w - - 0 1") (go "g1" "g6") "Qg6" = refl in
    let en_passant_played : HasText (fen "4k3/8/8/8/3pP3/8/8/4K3 b - e3 0 1") (go "d4" "e3") "dxe3" = refl in
    let castling_short : HasText rooks (go "e1" "g1") "O-O" = refl in
    let castling_long : HasText (then_play rooks (go "e1" "g1")) (go "e8" "c8") "O-O-O" = refl in
    let king_step : HasText rooks (go "e1" "f1") "Kf1" = refl in
    let promotion : HasText (fen "8/P6k/8/8/8/8/8/K7 w - - 0 1") (becoming "a7" "a8" (Some Queen)) "a8=Q" = refl in
    let promotion_by_capture : HasText (fen "1r6/P6k/8/8/8/8/8/K7 w - - 0 1") (becoming "a7" "b8" (Some Knight)) "axb8=N" = refl in
    let fools_mate : HasText before_mate (go "d8" "h4") "Qh4#" = tried before_mate (go "d8" "h4") _ refl in
    tt
