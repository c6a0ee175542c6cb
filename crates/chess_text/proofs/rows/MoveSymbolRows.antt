-- Worked rows of the texts of moves as symbols (PGN 7, 8.2.3), and of reading them back.
use Rattle.chess_text.proofs.Words.{◌≡◌, ℕ, ◌≤◌, true, List, [], Option, None, Some, Result, Ok, Err, refl, sym, subst, ◌∙◌, arith, codes, is_some, option_map, IsTrue, false≢true, Move, Parts, Square, squares, is_position, legal, Played, SanFault, NoMove, Ambiguous, form_of, agreeing, move_of_form, san, begins_with_letter, is_marker, IsMoveSymbol, WrittenMoveIsSymbol, WrittenMoveIsRead, some_of}
use Rattle.chess_text.proofs.rows.MovesOfPieces.{san_is_tried}
use Rattle.chess_text.proofs.rows.TextLawRows.{knights, queens, rooks, promoting, kings, g1e2, c3e2, h4e1, e1c1, a1b1, a7b8}
use Rattle.chess_text.proofs.rows.SanRows.{named, go}

-- a symbol, by the law
symbols : WrittenMoveIsSymbol → Unit {0}
unfolding squares
symbols law =
    let knight : IsMoveSymbol (codes "Ne2") = law knights g1e2 refl in
    let queen : IsMoveSymbol (codes "Qh4e1") = law queens h4e1 refl in
    let castling : IsMoveSymbol (codes "O-O-O") = law rooks e1c1 refl in
    let promotion : IsMoveSymbol (codes "axb8=N") = law promoting a7b8 refl in
    let h1h2 = go "h1" "h2" in
    let check : IsMoveSymbol (codes "Q1h2+") = subst IsMoveSymbol (san_is_tried queens h1h2) (law queens h1h2 refl) in
    tt

-- texts that are none: of no legal move by the law

abbrev IsOfNoMove : List ℕ → Type 0
IsOfNoMove s = (p : Parts) (m : Move) → IsTrue (is_some (legal p m)) → san p m ≡ s → ⊥

of_no_move : WrittenMoveIsSymbol → (s : List ℕ) → (IsMoveSymbol s → ⊥) → IsOfNoMove s
of_no_move law s wrong p m h e = wrong (subst IsMoveSymbol e (law p m h))

texts_of_no_move : WrittenMoveIsSymbol → Unit {0}
texts_of_no_move law =
    let no_text : IsOfNoMove [] = of_no_move law _ (λ h. false≢true h.begins) in
    let castling_with_zeros : IsOfNoMove (codes "0-0") = of_no_move law _ (λ h. false≢true h.begins) in
    let number : IsOfNoMove (codes "12") = of_no_move law _ (λ h. false≢true (sym h.no_number)) in
    let marker : (s : List ℕ) → IsTrue (is_marker s) → IsOfNoMove s = λ s is. of_no_move law s (λ h. false≢true (sym h.no_marker ∙ is)) in
    let win : IsOfNoMove (codes "1-0") = marker _ refl in
    let with_suffix : IsOfNoMove (codes "e4!") = of_no_move law _ (λ h. false≢true h.bytes) in
    let with_space : IsOfNoMove (codes "e4 ") = of_no_move law _ (λ h. false≢true h.bytes) in
    let with_underscore : IsOfNoMove (codes "e4_") = of_no_move law _ (λ h. false≢true h.bytes) in
    let eight_bytes : IsOfNoMove (codes "Qh4xe1++") = of_no_move law _ (λ h. let few : 8 ≤ 7 = h.fits in absurd (omega arith)) in
    tt

-- Without a legal move it is false: no piece is on a4.
from_nowhere : san knights (go "a4" "a5") ≡ []
unfolding squares
from_nowhere = refl

fails_unless_legal : ((p : Parts) (m : Move) → IsMoveSymbol (san p m)) → ⊥
fails_unless_legal law = false≢true (subst (λ s. begins_with_letter s ≡ true) from_nowhere (law knights (go "a4" "a5")).begins)

-- read back

abbrev as_read : Parts → List ℕ → Option (Result Played SanFault)
as_read p s = option_map (move_of_form p) (form_of s)

abbrev played : Move → Parts → Option (Result Played SanFault)
played m q = Some (Ok (record { mv = m; next = q }))

moves_read_by_law : WrittenMoveIsRead → Unit {0}
unfolding squares
moves_read_by_law law =
    let knight : (q : Parts) → legal knights g1e2 ≡ Some q → as_read knights (codes "Ne2") ≡ played g1e2 q = λ q. law knights q g1e2 refl in
    let promotion : (q : Parts) → legal promoting a7b8 ≡ Some q → as_read promoting (codes "axb8=N") ≡ played a7b8 q =
    λ q. law promoting q a7b8 refl in
    tt

-- computed: the origin of what is read
abbrev origin : Option (Result Played SanFault) → Square
origin None = named ""
origin (Some (Ok x)) = x.mv.from
origin (Some (Err f)) = named ""

-- Without a legal move, and in parts that are no position, it is false.
pinned_is_not_read : as_read knights (san knights c3e2) ≡ Some (Err NoMove)
unfolding squares agreeing
pinned_is_not_read = refl

two_kings_are_not_read : as_read kings (san kings a1b1) ≡ Some (Err Ambiguous)
unfolding squares agreeing
two_kings_are_not_read = refl

moves_read : Unit {0}
unfolding squares agreeing
moves_read =
    let knight : origin (as_read knights (codes "Ne2")) ≡ named "g1" = refl in
    let queen : origin (as_read queens (codes "Qh4e1")) ≡ named "h4" = refl in
    tt

not_read : (f : SanFault) (m : Move) (q : Parts) (o : Option (Result Played SanFault)) → o ≡ Some (Err f) → o ≡ played m q → ⊥
not_read f m q o e g = cc

fails_unless_legal_to_read : ((p q : Parts) (m : Move) → IsTrue (is_position p) → as_read p (san p m) ≡ played m q) → ⊥
unfolding squares
fails_unless_legal_to_read law = not_read NoMove c3e2 knights _ pinned_is_not_read (law knights knights c3e2 refl)

fails_unless_position : ((p q : Parts) (m : Move) → legal p m ≡ Some q → as_read p (san p m) ≡ played m q) → ⊥
unfolding squares
fails_unless_position law =
    let (q, next) = some_of (legal kings a1b1) refl in
    not_read Ambiguous a1b1 q _ two_kings_are_not_read (law kings q a1b1 next)
