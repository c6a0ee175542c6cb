-- The laws of texts at worked examples.
-- A row that takes a law applies it exactly as it is stated. The rows beside it compute what the
-- law says there, or show that this is false where one premise is missing.
use Prim.Native.String.{String}
use Rattle.chess_text.proofs.Words.{◌≡◌, ◌≢◌, ℕ, ◌≤◌, true, false, List, [], ◌++◌, Option, None, Some, Result, Ok, Err, length, refl, sym, ◌∙◌, subst, arith, codes, slice_index_or, digits, false≢true, Kind, King, Queen, Rook, Knight, Pawn, Move, Parts, squares, is_position, initial, own, is_legal, legal, FenFault, Form, Man, Fen, parts_read, fen_text, form_of, agrees, rivals, disambiguation, has_rivals, san, CanonicalIsShortest, Names, SingleReading, ShorterIsAmbiguous, disambiguations, text_with, same_Some, lit<}
use Rattle.chess_rules.specs.declared.piece.Promotion.TheVariants as promotions
use Rattle.chess_text.proofs.forms.FormToSpelling.{form_spelled}
use Rattle.chess_text.proofs.forms.SpellingToForm.{form_read}
use Rattle.chess_text.proofs.positions.ReadingToSpelling.{read_is_spelled}
use Rattle.chess_text.proofs.names.TextsToMoves.{another}
use Rattle.chess_text.proofs.rows.MovesOfPieces.{mark_is_tried}
use Rattle.chess_text.proofs.rows.SanRows.{named, becoming, go}

-- the parts that the six fields spell, whether they are a position or not
abbrev parts_or_initial : Result Parts FenFault → Parts
parts_or_initial (Ok p) = p
parts_or_initial (Err fault) = initial

abbrev pub drawn : String → Parts
drawn s = parts_or_initial (parts_read (codes s))

-- The knight on c3 is pinned.
abbrev pub knights : Parts
knights = drawn "4k3/8/8/8/1b6/2N5/8/4K1N1 w - - 0 1"

abbrev pub queens : Parts
queens = drawn "1k6/8/8/8/4Q2Q/8/8/K6Q w - - 0 1"

abbrev capturing : Parts
capturing = drawn "1k6/8/8/8/4Q2Q/8/8/K3n2Q w - - 0 1"

abbrev pub rooks : Parts
rooks = drawn "r3k2r/8/8/8/8/8/8/R3K2R w KQkq - 0 1"

abbrev pub promoting : Parts
promoting = drawn "1r6/P6k/8/8/8/8/8/K7 w - - 0 1"

abbrev pub kings : Parts
kings = drawn "4k3/8/8/8/8/8/8/K1K5 w - - 0 1"

abbrev queen_and_rook : Parts
queen_and_rook = drawn "1k6/8/8/8/4Q3/8/8/K6R w - - 0 1"

abbrev pawns : Parts
pawns = drawn "3r4/2P1P2k/8/8/8/8/8/K7 w - - 0 1"

abbrev pub g1e2 : Move
g1e2 = go "g1" "e2"

abbrev pub c3e2 : Move
c3e2 = go "c3" "e2"

abbrev e4e1 : Move
e4e1 = go "e4" "e1"

abbrev pub h4e1 : Move
h4e1 = go "h4" "e1"

abbrev h1e1 : Move
h1e1 = go "h1" "e1"

abbrev pub e1c1 : Move
e1c1 = go "e1" "c1"

abbrev pub a1b1 : Move
a1b1 = go "a1" "b1"

abbrev pub a7b8 : Move
a7b8 = becoming "a7" "b8" (Some promotions.Knight)

abbrev c7d8 : Move
c7d8 = becoming "c7" "d8" (Some promotions.Queen)

-- a form with no promotion
abbrev to_square : Kind → Option ℕ → Option ℕ → String → Form
to_square k file rank to = Man k file rank (named to) None

-- the text names the move and no other
abbrev NamesAlone : Parts → List ℕ → Move → Type 0
NamesAlone p s m = Names p s m × ((n : Move) → Names p s n → n ≡ m)

abbrev NamesAnother : Parts → List ℕ → Move → Type 0
NamesAnother p s m = (n : Move) × (n ≢ m) × Names p s n

-- the text names the move and another one
abbrev NamesTwo : Parts → List ℕ → Move → Type 0
NamesTwo p s m = Names p s m × NamesAnother p s m

-- A text names the moves that agree with the form that it spells, and no others.

named_by : (p : Parts) (s : List ℕ) (m : Move) (f : Form) → form_of s ≡ Some f → agrees p f m ≡ true → Names p s m
named_by p s m f read agreed = let (spelled, good) = form_spelled s f read in (f, spelled, good, agreed)

unnamed : (p : Parts) (s : List ℕ) (m : Move) (f : Form) → form_of s ≡ Some f → agrees p f m ≡ false → Names p s m → ⊥
unnamed p s m f read wrong (g, spelled, good, agreed) =
    false≢true (sym wrong ∙ subst (λ (x : Form). agrees p x m ≡ true) (same_Some g f (sym (form_read s g spelled good) ∙ read)) agreed)

-- SingleReading: the text of a legal move names this move and no other.

single_reading : SingleReading → Unit {0}
unfolding squares
single_reading law =
    let knight : NamesAlone knights (codes "Ne2") g1e2 = law knights g1e2 refl refl in
    let castling : NamesAlone rooks (codes "O-O-O") e1c1 = law rooks e1c1 refl refl in
    let promotion : NamesAlone promoting (codes "axb8=N") a7b8 = law promoting a7b8 refl refl in
    tt

texts_and_moves : Unit {0}
unfolding squares
texts_and_moves =
    let knight_named : Names knights (codes "Ne2") g1e2 = named_by knights _ g1e2 (to_square Knight None None "e2") refl refl in
    let pinned_unnamed : Names knights (codes "Ne2") c3e2 → ⊥ = unnamed knights _ c3e2 (to_square Knight None None "e2") refl refl in
    -- Without a legal move: the text of the pinned knight's move does not name this move.
    let pinned_is_illegal : is_legal knights c3e2 ≡ false = refl in
    let pinned_text : san knights c3e2 ≡ codes "Nce2" = refl in
    let illegal_unnamed : Names knights (codes "Nce2") c3e2 → ⊥ = unnamed knights _ c3e2 (to_square Knight (Some 2) None "e2") refl refl in
    -- Without a position: the text of a king's move names the move of a second king too.
    let two_kings : is_position kings ≡ false = refl in
    let king_is_legal : is_legal kings a1b1 ≡ true = refl in
    let king_text : san kings a1b1 ≡ codes "Kb1" = refl in
    let other_king_named : NamesAnother kings (codes "Kb1") a1b1 =
    (go "c1" "b1", another (go "c1" "b1") a1b1 refl, named_by kings _ (go "c1" "b1") (to_square King None None "b1") refl refl) in
    tt

-- ShorterIsAmbiguous: the steps are none, file, rank, square. With an earlier step than the one
-- that is written, the text names the move and another one.

shorter_is_ambiguous : ShorterIsAmbiguous → Unit {0}
unfolding squares
shorter_is_ambiguous law =
    -- The queen on h4 needs its square.
    let nothing_for_the_square : NamesTwo queens (codes "Qe1") h4e1 = law queens Queen h4e1 0 3 refl refl refl (lit< tt) (lit< tt) refl in
    let file_for_the_square : NamesTwo queens (codes "Qhe1") h4e1 = law queens Queen h4e1 1 3 refl refl refl (lit< tt) (lit< tt) refl in
    let rank_for_the_square : NamesTwo queens (codes "Q4e1") h4e1 = law queens Queen h4e1 2 3 refl refl refl (lit< tt) (lit< tt) refl in
    -- The queen on h1 needs its rank, and the one on e4 its file.
    let file_for_the_rank : NamesTwo queens (codes "Qhe1") h1e1 = law queens Queen h1e1 1 2 refl refl refl (lit< tt) (lit< tt) refl in
    let nothing_for_the_file : NamesTwo queens (codes "Qe1") e4e1 = law queens Queen e4e1 0 1 refl refl refl (lit< tt) (lit< tt) refl in
    -- With a capture, and with a check. (PGN 8.2.3.3, 8.2.3.5)
    let file_for_a_capture : NamesTwo capturing (codes "Qhxe1") h4e1 = law capturing Queen h4e1 1 3 refl refl refl (lit< tt) (lit< tt) refl in
    let m = go "h1" "h2" in
    let nothing_for_a_check : NamesTwo queens (codes "Qh2+") m =
    subst (λ (s : List ℕ). NamesTwo queens (codes "Qh2" ++ s) m) (mark_is_tried (legal queens m))
    (law queens Queen m 0 2 refl refl refl (lit< tt) (lit< tt) refl) in
    tt

-- the step that is written, and the text with a step
abbrev Writes : Parts → Kind → Move → ℕ → Type 0
Writes p k m i = disambiguation m.from (rivals p k m) ≡ slice_index_or (disambiguations m.from) i []

abbrev with_step : Parts → Kind → Move → ℕ → List ℕ
with_step p k m i = text_with p k m (slice_index_or (disambiguations m.from) i [])

steps_and_texts : Unit {0}
unfolding squares
steps_and_texts =
    -- The same computed: the queens on h4 and h1 share a file, and those on h4 and e4 share a rank.
    let by_file = to_square Queen (Some 7) None "e1" in
    let file_names_two : NamesTwo queens (codes "Qhe1") h4e1 =
    (named_by queens _ h4e1 by_file refl refl, (h1e1, another h1e1 h4e1 refl, named_by queens _ h1e1 by_file refl refl)) in
    let by_rank = to_square Queen None (Some 3) "e1" in
    let rank_names_two : NamesTwo queens (codes "Q4e1") h4e1 =
    (named_by queens _ h4e1 by_rank refl refl, (e4e1, another e4e1 h4e1 refl, named_by queens _ e4e1 by_rank refl refl)) in
    let square_is_written : Writes queens Queen h4e1 3 = refl in
    let file_is_written : Writes queens Queen e4e1 1 = refl in
    let nothing_is_written : Writes knights Knight g1e2 4 = refl in
    -- Without a legal move: the shorter text names the move of the other knight, not of this one.
    let file_of_the_pinned : Writes knights Knight c3e2 1 = refl in
    let pinned_unnamed : Names knights (with_step knights Knight c3e2 0) c3e2 → ⊥ =
    unnamed knights (codes "Ne2") c3e2 (to_square Knight None None "e2") refl refl in
    -- With the kind of another piece: the text of a rook's move does not name a queen's move.
    let queen_is_no_rook : own queen_and_rook Rook e4e1.from ≡ false = refl in
    let file_beside_a_rook : Writes queen_and_rook Rook e4e1 1 = refl in
    let queen_unnamed : Names queen_and_rook (with_step queen_and_rook Rook e4e1 0) e4e1 → ⊥ =
    unnamed queen_and_rook (codes "Re1") e4e1 (to_square Rook None None "e1") refl refl in
    -- With the kind of a pawn: the text has no promotion, so it does not name a promotion.
    let no_rivals_of_pawns : has_rivals Pawn ≡ false = refl in
    let pawn_is_legal : is_legal pawns c7d8 ≡ true = refl in
    let file_beside_a_pawn : Writes pawns Pawn c7d8 1 = refl in
    let promotion_unnamed : Names pawns (with_step pawns Pawn c7d8 0) c7d8 → ⊥ =
    unnamed pawns (codes "Pxd8") c7d8 (to_square Pawn None None "d8") refl refl in
    tt

-- The text names the move alone with the step that is written and no earlier one, with a step
-- before the square (3) where the file (1) is written, and with a step past the four, which gives
-- no text, as where there is no rival.
one_is_named : SingleReading → Unit {0}
unfolding squares
one_is_named law =
    let square_is_enough : NamesAnother queens (with_step queens Queen h4e1 3) h4e1 → ⊥ =
    λ (n, other, names). other ((law queens h4e1 refl refl).1 n names) in
    let file_is_enough : NamesAnother queens (with_step queens Queen e4e1 1) e4e1 → ⊥ =
    λ (n, other, names). other ((law queens e4e1 refl refl).1 n names) in
    let nothing_is_enough : NamesAnother knights (with_step knights Knight g1e2 0) g1e2 → ⊥ =
    λ (n, other, names). other ((law knights g1e2 refl refl).1 n names) in
    tt

-- CanonicalIsShortest: no text of a position is shorter than its canonical text.

abbrev bare_kings : Parts
bare_kings = drawn "4k3/8/8/8/8/8/8/4K3 w - - 0 1"

canonical_fen : Fen (codes "4k3/8/8/8/8/8/8/4K3 w - - 0 1") bare_kings
unfolding squares
canonical_fen = read_is_spelled _ _ refl

longer_fen : Fen (codes "4k3/44/8/8/8/8/8/4K3 w - - 00 001") bare_kings
unfolding squares
longer_fen = read_is_spelled _ _ refl

canonical_is_shortest : CanonicalIsShortest → Unit {0}
unfolding squares digits
canonical_is_shortest law =
    let itself : 29 ≤ 29 = law (codes "4k3/8/8/8/8/8/8/4K3 w - - 0 1") bare_kings canonical_fen in
    let a_longer_text : 29 ≤ 33 = law (codes "4k3/44/8/8/8/8/8/4K3 w - - 00 001") bare_kings longer_fen in
    tt

canonical_texts : Unit {0}
unfolding squares digits
canonical_texts =
    let canonical : fen_text bare_kings ≡ codes "4k3/8/8/8/8/8/8/4K3 w - - 0 1" = refl in
    -- Without a text of the same position: the text of another position is shorter.
    let other : fen_text (drawn "k7/8/8/8/8/8/8/7K w - - 0 1") ≡ codes "k7/8/8/8/8/8/8/7K w - - 0 1" = refl in
    let shorter : length (fen_text bare_kings) ≤ length (codes "k7/8/8/8/8/8/8/7K w - - 0 1") → ⊥ = λ (h : 29 ≤ 27). omega arith in
    tt
