-- A text in UCI, and the one move whose text it is.
use Rattle.chess_text.proofs.Words.{◌≡◌, ◌≢◌, ℕ, ◌+◌, Bool, true, false, List, [], ◌∷◌, ◌++◌, refl, sym, ◌∙◌, ap, ap₂, subst, arith, Option, None, Some, Result, Ok, Err, find, bytes_eq, list_all, Contains, bytes_eq-Decides, and_parts, and_from, ok_or, is_some, Promotion, Move, Parts, Square, squares, on_board, every_promotion, legal, is_legal, Played, with_next, square_text, file_of, rank_of, square_of, nat_tests, same_Some, common_steps, IfOk, is_on_board, uci_promotion, uci, square_named, promotion_named, move_if, move_with_text, if_legal, move_of_uci, UciIsExact, WrittenUciIsRead, UciTextsDiffer, UciFault, NotAMove, IllegalMove}
use Rattle.chess_text.proofs.forms.AgreeingAreFound.{in_squares}
use Rattle.chess_text.proofs.forms.CastlingMoves.{stepped}
use Rattle.chess_text.proofs.forms.FormToSpelling.{found, target_spelled}
use Rattle.chess_text.proofs.forms.OnlyElement.{element, none_in}
use Rattle.chess_text.proofs.forms.SpellingToForm.{same_bytes}

-- What is found.

-- an element is found if no other passes the test
found_alone : {X : Type 0} (test : X → Bool) (xs : List X) (x : X) → Contains xs x → test x ≡ true
    → ((y : X) → test y ≡ true → y ≡ x) → find test xs ≡ Some x
found_alone test [] x c h alone = absurd (none_in x c)
found_alone {X} test (y ∷ ys) x c h alone = by_test _ refl (λ more. found_alone test ys x more h alone)
  where
    by_test : (b : Bool) → test y ≡ b → (Contains ys x → find test ys ≡ Some x) → find test (y ∷ ys) ≡ Some x
    by_test b e further = grind (arith, common_steps, element)

-- what holds of all elements holds of the one that is found
found_among : {X : Type 0} (test holds : X → Bool) (xs : List X) (x : X) → list_all holds xs ≡ true → find test xs ≡ Some x → holds x ≡ true
found_among test holds [] x all h = cc
found_among {X} test holds (y ∷ ys) x all h = by_test (test y) refl (found_among test holds ys x both.1)
  where
    both : (holds y ≡ true) × (list_all holds ys ≡ true)
    both = and_parts (holds y) (list_all holds ys) all

    by_test : (b : Bool) → test y ≡ b → (find test ys ≡ Some x → holds x ≡ true) → holds x ≡ true
    by_test true e further = rw (← same_Some y x (rw e at h)) both.0
    by_test false e further = further (rw e at h)

-- The squares.

all_on_board : list_all on_board squares ≡ true
unfolding squares
all_on_board = refl

square_text_once : (s t : Square) → square_text s ≡ square_text t → s ≡ t
square_text_once s t h = grind arith

square_read : (s : Square) → on_board s ≡ true → square_named (97 + s.file) (49 + s.rank) ≡ Some s
square_read s on =
    found_alone (λ t. bytes_eq (square_text t) (square_text s)) squares s (in_squares s on)
    ((bytes_eq-Decides (square_text s) (square_text s)).1 refl)
    (λ t e. square_text_once t s (same_bytes (square_text t) (square_text s) e))

square_spelled : (a b : ℕ) (s : Square) → square_named a b ≡ Some s → (a ∷ b ∷ [] ≡ square_text s) × (on_board s ≡ true)
square_spelled a b s h = grind (arith, common_steps, same_bytes, found, found_among, all_on_board)

square_in_form : (s : Square) → on_board s ≡ true → square_of (file_of (97 + s.file)) (rank_of (49 + s.rank)) ≡ Some s
square_in_form s on = grind (arith, nat_tests)

-- the two bytes of a square name it as they do in a form
pub square_by_bytes : (a b : ℕ) → square_of (file_of a) (rank_of b) ≡ square_named a b
square_by_bytes a b = by_form _ refl
  where
    by_name : (o : Option Square) → square_named a b ≡ o → square_of (file_of a) (rank_of b) ≡ None → None ≡ square_named a b
    by_name None e none = sym e
    by_name (Some s) e none =
        let (text, on) = square_spelled a b s e in
        let form = square_in_form s on in
        let file : a ≡ 97 + s.file = cc in
        let rank : b ≡ 49 + s.rank = cc in
        cc

    by_form : (o : Option Square) → square_of (file_of a) (rank_of b) ≡ o → o ≡ square_named a b
    by_form None e = by_name _ refl e
    by_form (Some s) e =
        let (text, on) = target_spelled (a ∷ b ∷ []) s e in
        let read = square_read s on in
        let file : a ≡ 97 + s.file = cc in
        let rank : b ≡ 49 + s.rank = cc in
        rw (file, rank) (sym read)

-- The promotion.

promotion_spelled : (s : List ℕ) (q : Option Promotion) → promotion_named s ≡ Some q → s ≡ uci_promotion q
promotion_spelled s q h = sym (same_bytes (uci_promotion q) s (found (λ x. bytes_eq (uci_promotion x) s) every_promotion q h))

-- The move.

move_read : (m : Move) → is_on_board m ≡ true → move_with_text (uci m) ≡ Some m
move_read m on = grind (arith, common_steps, and_parts, square_read)

move_spelled : (s : List ℕ) (m : Move) → move_with_text s ≡ Some m → (s ≡ uci m) × (is_on_board m ≡ true)
move_spelled (a ∷ b ∷ c ∷ d ∷ s) m h = by_parts _ _ _ refl refl refl h
  where
    by_parts : (from to : Option Square) (q : Option (Option Promotion)) → square_named a b ≡ from → square_named c d ≡ to → promotion_named s ≡ q
        → move_if from to q ≡ Some m → (a ∷ b ∷ c ∷ d ∷ s ≡ uci m) × (is_on_board m ≡ true)
    by_parts (Some x) (Some y) (Some q) e f g is =
        let from = square_spelled a b x e in
        let to = square_spelled c d y f in
        rw (← same_Some _ m is)
        (ap₂ (λ u v. u ++ v) (ap₂ (λ u v. u ++ v) from.0 to.0) (promotion_spelled s q g), and_from _ _ from.1 to.1)
    by_parts from to q e f g is = cc
move_spelled s m h = cc

-- The answer.

-- the move of an answer is legal, and leads to its position
module _ (p : Parts) (m : Move) where
  pub answer_is_legal : (r : Result Played UciFault) → r ≡ if_legal p (Some m) → IfOk r (λ x. legal p x.mv ≡ Some x.next)
  answer_is_legal r is = rw is (by_next _ refl)
    where
      by_next : (o : Option Parts) → legal p m ≡ o → IfOk (ok_or (with_next m o) IllegalMove) (λ x. legal p x.mv ≡ Some x.next)
      by_next None e = tt
      by_next (Some q) e = e

  -- the answer for a move of the board, by its text
  answer_of_text : is_on_board m ≡ true → move_of_uci p (uci m) ≡ if_legal p (Some m)
  answer_of_text on = ap (if_legal p) (move_read m on)

  legal_on_board : is_legal p m ≡ true → is_on_board m ≡ true
  legal_on_board h = let st = stepped p m h in and_from _ _ st.from_on st.to_on

pub written_uci_is_read : WrittenUciIsRead
written_uci_is_read p q m next =
    answer_of_text p m (legal_on_board p m (ap is_some next)) ∙ ap (λ o. ok_or (with_next m o) IllegalMove) next

pub uci_texts_differ : UciTextsDiffer
uci_texts_differ p m n legal_m legal_n apart same =
    apart (same_Some m n (
    sym (move_read m (legal_on_board p m legal_m)) ∙ ap move_with_text same ∙ move_read n (legal_on_board p n legal_n)
    ))

-- what an answer for a move says of the position after it
module _ (m : Move) (o : Option Parts) where
  played_next : (x : Played) → ok_or (with_next m o) IllegalMove ≡ Ok x → (m ≡ x.mv) × (o ≡ Some x.next)
  played_next x h = grind arith

  illegal_next : ok_or (with_next m o) IllegalMove ≡ Err IllegalMove → is_some o ≡ false
  illegal_next h = grind arith

  no_next : is_some o ≡ false → ok_or (with_next m o) IllegalMove ≡ Err IllegalMove
  no_next h = grind arith

  a_move_is_named : ok_or (with_next m o) IllegalMove ≡ Err NotAMove → ⊥
  a_move_is_named h = grind arith

-- the text is that of the move
record Named (s : List ℕ) (m : Move) : Type 0 where
  text : s ≡ uci m
  on : is_on_board m ≡ true

module _ (p : Parts) (s : List ℕ) where
  named : (m : Move) → move_with_text s ≡ Some m → Named s m
  named m e = let (text, on) = move_spelled s m e in record { text = text; on = on }

  answer_of_named : (m : Move) → Named s m → move_of_uci p s ≡ if_legal p (Some m)
  answer_of_named m h = subst (λ (t : List ℕ). move_of_uci p t ≡ if_legal p (Some m)) (sym h.text) (answer_of_text p m h.on)

  legal_move : (x : Played) (o : Option Move) → move_with_text s ≡ o → if_legal p o ≡ Ok x → (s ≡ uci x.mv) × (legal p x.mv ≡ Some x.next)
  legal_move x None e h = cc
  legal_move x (Some m) e h =
      let (is, next) = played_next m (legal p m) x h in
      (rw (← is) (named m e).text, rw (← is) next)

  illegal_move : (o : Option Move) → move_with_text s ≡ o → if_legal p o ≡ Err IllegalMove
      → (m : Move) × (is_on_board m ≡ true) × (s ≡ uci m) × (is_legal p m ≡ false)
  illegal_move None e h = cc
  illegal_move (Some m) e h = let is = named m e in (m, is.on, is.text, illegal_next m (legal p m) h)

  no_move : (o : Option Move) → move_with_text s ≡ o → if_legal p o ≡ Err NotAMove → (m : Move) → is_on_board m ≡ true → s ≢ uci m
  no_move o e h m on text =
      a_move_is_named m (legal p m) (sym (answer_of_named m (record { text = text; on = on })) ∙ ap (if_legal p) e ∙ h)

  no_move_is_named : (o : Option Move) → move_with_text s ≡ o → ((m : Move) → is_on_board m ≡ true → s ≢ uci m) → if_legal p o ≡ Err NotAMove
  no_move_is_named None e none = refl
  no_move_is_named (Some m) e none = let is = named m e in absurd (none m is.on is.text)

pub uci_is_exact : UciIsExact
uci_is_exact =
    record {
      legal_move =
          λ p s x. (
            legal_move p s x _ refl,
            λ h. subst (λ (t : List ℕ). move_of_uci p t ≡ Ok x) (sym h.0) (written_uci_is_read p x.next x.mv h.1),
          );
      illegal_move =
          λ p s. (
            illegal_move p s _ refl,
            λ h. answer_of_named p s h.0 (record { text = h.2; on = h.1 }) ∙ no_next h.0 (legal p h.0) h.3,
          );
      no_move = λ p s. (no_move p s _ refl, no_move_is_named p s _ refl);
    }
