-- What the texts of legal moves name.
use Rattle.chess_text.proofs.Words.{◌≡◌, ◌≢◌, ℕ, zero, suc, ◌<◌, Bool, true, false, not, ◌&&◌, List, [], ◌∷◌, ◌++◌, append-nil, refl, sym, ◌∙◌, ap, arith, ◌==◌, nat_lt, Option, None, Some, slice_index_or, list_any, Any, false≢true, and_parts, and_from, ltb-true, Any-from_list_any, Kind, King, Pawn, Move, Parts, Square, squares, same_square, same_kind, own, is_legal, OneKing, Man, letter, file_letter, rank_digit, square_text, Spells, is_form, below_eight, hint_text, hints_fit, capture_text, from_square, is_rival, rivals, on_file, on_rank, disambiguation_by, has_rivals, mark, san, Names, SingleReading, disambiguations, text_with, ShorterIsAmbiguous, same_Some, ◌+◌, ◌≤◌, length, subst, is_some, option_map, codes, list_all, list_all-append, nat_tests, Promotion, legal, on_board, move_of_form, capture_if, pawn_capture, promotion_text, king_text, disambiguated_text, kind_text, piece_text, is_letter, is_move_byte, begins_with_letter, IsMoveSymbol, WrittenMoveIsSymbol, WrittenMoveIsRead, or_right, rules, common_steps, list_any-filter, same_square-refl}
use Rattle.chess_text.proofs.forms.CastlingMoves.{stepped}
use Rattle.chess_text.proofs.forms.SpellingToForm.{form_read}
use Rattle.chess_text.proofs.names.OneMoveAgrees.{turn, alone}
use Rattle.chess_text.proofs.names.WrittenToForm.{written, moved, san_spelled, good_form, written_agrees, capture_fits, own_letter, marks_alone, unpromoted, no_castling, piece_move_described, itself}
use Rattle.chess_text.proofs.forms.AgreeingAreFound.{the_one_move_is_read}
use Rattle.chess_text.proofs.forms.MoverOfMove.{king_text_by}

pub single : OneKing → SingleReading
single one p m position h =
    let v = moved p m h in
    let k = v.piece.kind in
    let spelled = san_spelled p m v in
    let good = good_form k p m h in (
      (written k p m, spelled, good, written_agrees k p m h v.stands),
      λ n r. alone one p k m n position h v.stands
          (rw (same_Some r.0 (written k p m) (sym (form_read (san p m) r.0 r.1 r.2) ∙ form_read (san p m) (written k p m) spelled good)) at r.3),
    )

-- With an earlier step.

no_king : (k : Kind) → has_rivals k ≡ true → (same_kind King k ≡ false) × (same_kind k Pawn ≡ false)
no_king k h = grind arith

-- a rival that passes a test
record Rival (p : Parts) (k : Kind) (m : Move) (test : Square → Bool) : Type 0 where
  on : Square
  stands : own p k on ≡ true
  other : same_square on m.from ≡ false
  goes : is_legal p (from_square m on) ≡ true
  passes : test on ≡ true

four_hold : (a b c d : Bool) → ((a && (not b && c)) && d) ≡ true → (a ≡ true) × (b ≡ false) × (c ≡ true) × (d ≡ true)
four_hold a b c d h = grind arith

some_rival : (p : Parts) (k : Kind) (m : Move) (test other : Square → Bool)
    → ((s : Square) → test s ≡ true → other s ≡ true) → list_any test (rivals p k m) ≡ true → Rival p k m other
some_rival p k m test other implied h = by_place (Any-from_list_any _ squares (sym (list_any-filter test _ squares) ∙ h))
  where
    by_place : Any (λ s. ((own p k s && is_rival p m s) && test s) ≡ true) squares → Rival p k m other
    by_place h = search (rules, four_hold)

pub another : (n m : Move) → same_square n.from m.from ≡ false → n ≢ m
another n m other e = false≢true (sym other ∙ ap (λ (x : Move). same_square x.from m.from) e ∙ same_square-refl m.from)

-- the text with such hints names each move that fits them
module _ (p : Parts) (k : Kind) (m : Move) (h : is_legal p m ≡ true) (stands : own p k m.from ≡ true) (may_have_rivals : has_rivals k ≡ true)
    (file rank : Option ℕ) (apart : List ℕ)
    (joined : (letter k ∷ []) ++ apart ≡ ((letter k ∷ []) ++ hint_text file_letter file) ++ hint_text rank_digit rank)
    (below : (below_eight file && below_eight rank) ≡ true) where
  spelled : Spells (text_with p k m apart) (Man k file rank m.to None)
  spelled =
      record {
        bare = (letter k ∷ []) ++ apart ++ capture_text p m ++ square_text m.to;
        marks = mark _;
        joined = refl;
        spells_bare = record {
          letters = letter k ∷ [];
          capture = capture_text p m;
          promoted = [];
          joined = ap (λ s. (s ++ capture_text p m) ++ square_text m.to) joined ∙ sym (append-nil _);
          letters_fit = own_letter k may_have_rivals;
          capture_fits = capture_fits _;
          promoted_fits = refl;
        };
        marks_alone = marks_alone _;
      }

  good : is_form (Man k file rank m.to None) ≡ true
  good = and_from _ _ below (stepped p m h).to_on

  names : (s : Square) → own p k s ≡ true → is_legal p (from_square m s) ≡ true
      → hints_fit file rank s ≡ true → Names p (text_with p k m apart) (from_square m s)
  names s own_s goes hints = (
    Man k file rank m.to None,
    spelled,
    good,
    and_from _ _ goes
        (piece_move_described p (from_square m s) k file rank None own_s hints
        (unpromoted p m k h stands (no_king k may_have_rivals).1) (no_castling p _ k own_s (no_king k may_have_rivals).0)),
  )

  two_named : hints_fit file rank m.from ≡ true → Rival p k m (λ s. hints_fit file rank s)
      → Names p (text_with p k m apart) m × ((n : Move) × (n ≢ m) × Names p (text_with p k m apart) n)
  two_named fits r = search (rules, names, another)

-- which rivals there are, by what is written
record Flags (j : ℕ) (any file rank : Bool) : Type 0 where
  any_is : 0 < j → any ≡ true
  file_is : 1 < j → file ≡ true
  rank_is : 2 < j → rank ≡ true

flags : (s : Square) (any file rank : Bool) (j : ℕ) → s.rank < 8 → j < 4
    → disambiguation_by s any file rank ≡ slice_index_or (disambiguations s) j [] → Flags j any file rank
flags s any file rank (suc (suc (suc (suc j)))) low high told = grind arith
flags s any file rank j low high told = grind arith

pub less : ShorterIsAmbiguous
less p k m i j h stands may_have_rivals low high told =
    by_step i low
    (flags _ _ _ _ j (ltb-true _ 8 begins.1) high told)
  where
    begins : (nat_lt m.from.file 8 ≡ true) × (nat_lt m.from.rank 8 ≡ true)
    begins = and_parts (nat_lt m.from.file 8) (nat_lt m.from.rank 8) (stepped p m h).from_on

    by_step : (i : ℕ) → i < j → Flags j (list_any (λ r. true) (rivals p k m)) (on_file m.from (rivals p k m)) (on_rank m.from (rivals p k m))
        → Names p (text_with p k m (slice_index_or (disambiguations m.from) i [])) m
        × ((n : Move) × (n ≢ m) × Names p (text_with p k m (slice_index_or (disambiguations m.from) i [])) n)
    by_step zero low f =
        two_named p k m h stands may_have_rivals None None [] refl refl refl (some_rival p k m (λ s. true) (λ s. true) (λ s e. e) (f.any_is low))
    by_step (suc zero) low f =
        two_named p k m h stands may_have_rivals (Some m.from.file) None
        (file_letter m.from.file ∷ []) refl (and_from (nat_lt m.from.file 8) true begins.0 refl)
        (and_from (m.from.file == m.from.file) true (itself m.from.file) refl)
        (some_rival p k m (λ s. s.file == m.from.file) (λ s. hints_fit (Some m.from.file) None s)
        (λ s e. and_from (m.from.file == s.file) true (turn s.file m.from.file e) refl) (f.file_is low))
    by_step (suc (suc zero)) low f =
        two_named p k m h stands may_have_rivals None (Some m.from.rank) (rank_digit m.from.rank ∷ []) refl begins.1 (itself m.from.rank)
        (some_rival p k m (λ s. s.rank == m.from.rank) (λ s. hints_fit None (Some m.from.rank) s)
        (λ s e. turn s.rank m.from.rank e) (f.rank_is low))
    by_step (suc (suc (suc i))) low f = absurd (omega arith)

-- The text of a legal move is a symbol, and is read as the move.

-- bytes of moves, at most so many
record Bytes (most : ℕ) (s : List ℕ) : Type 0 where
  all : list_all is_move_byte s ≡ true
  fits : length s ≤ most

bytes_append : (m n : ℕ) (xs ys : List ℕ) → Bytes m xs → Bytes n ys → Bytes (m + n) (xs ++ ys)
bytes_append m n xs ys a b = grind (arith, common_steps, list_all-append)

-- the bytes of squares
file_is_letter : (s : Square) → on_board s ≡ true → is_letter (file_letter s.file) ≡ true
file_is_letter s on = grind (arith, nat_tests)

one_byte : (c : ℕ) → is_move_byte c ≡ true → Bytes 1 (c ∷ [])
one_byte c h = record { all = and_from _ true h refl; fits = omega arith }

letter_byte : (c : ℕ) → is_letter c ≡ true → Bytes 1 (c ∷ [])
letter_byte c e = one_byte c (rw e refl)

file_bytes : (s : Square) → on_board s ≡ true → Bytes 1 (file_letter s.file ∷ [])
file_bytes s on = letter_byte _ (file_is_letter s on)

rank_bytes : (s : Square) → on_board s ≡ true → Bytes 1 (rank_digit s.rank ∷ [])
rank_bytes s on = grind (arith, common_steps, or_right)

square_bytes : (s : Square) → on_board s ≡ true → Bytes 2 (square_text s)
square_bytes s on = bytes_append 1 1 (file_letter _ ∷ []) (rank_digit _ ∷ []) (file_bytes s on) (rank_bytes s on)

more : (m n : ℕ) (s : List ℕ) → m ≤ n → Bytes m s → Bytes n s
more m n s less h = record { all = h.all; fits = omega arith }

-- the parts of a text
apart_bytes : (s : Square) (any file rank : Bool) → on_board s ≡ true → Bytes 2 (disambiguation_by s any file rank)
apart_bytes s any file rank on = grind (arith, common_steps, file_bytes, rank_bytes, square_bytes)

capture_bytes : (takes : Bool) → Bytes 1 (capture_if takes)
capture_bytes takes = grind arith

promotion_bytes : (q : Option Promotion) → Bytes 2 (promotion_text q)
promotion_bytes q = grind arith

mark_bytes : (o : Option Parts) → Bytes 1 (mark o)
mark_bytes None = grind arith
mark_bytes (Some q) = grind arith

letter_is_letter : (k : Kind) → is_letter (letter k) ≡ true
letter_is_letter k = grind arith

letter_bytes : (k : Kind) → Bytes 1 (letter k ∷ [])
letter_bytes k = letter_byte _ (letter_is_letter k)

-- the text without its mark
record Unmarked (s : List ℕ) : Type 0 where
  begins : begins_with_letter s ≡ true
  bytes : Bytes 6 s

-- of a queen, a rook, a bishop or a knight
piece_symbol : (k : Kind) (p : Parts) (m : Move) → on_board m.from ≡ true → on_board m.to ≡ true → Unmarked (disambiguated_text k p m)
piece_symbol k p m from to =
    let others = rivals p k m in
    let any = list_any (λ r. true) others in
    let apart = apart_bytes _ any (on_file m.from others) (on_rank m.from others) from in
    let front = bytes_append 1 2 (letter k ∷ []) _ (letter_bytes k) apart in
    let taking = bytes_append 3 1 _ (capture_text p m) front (capture_bytes _) in
    record {
      begins = letter_is_letter k;
      bytes = bytes_append 4 2 _ (square_text m.to) taking (square_bytes m.to to);
    }

king_symbol : (p : Parts) (m : Move) → on_board m.to ≡ true → Unmarked (king_text p m)
king_symbol p m to = by_wing _ _
  where
    plain : Unmarked (codes "K" ++ capture_text p m ++ square_text m.to)
    plain =
        let front = bytes_append 1 1 (codes "K") (capture_text p m) (letter_bytes King) (capture_bytes _) in
        let whole = bytes_append 2 2 _ (square_text m.to) front (square_bytes m.to to) in
        record { begins = refl; bytes = more 4 6 _ (omega arith) whole }

    by_wing : (a b : Bool) → Unmarked (king_text_by a b p m)
    by_wing false false = plain
    by_wing a b = record { begins = refl; bytes = grind arith }

pawn_symbol : (takes : Bool) (m : Move) → on_board m.from ≡ true → on_board m.to ≡ true
    → Unmarked (pawn_capture takes m ++ square_text m.to ++ promotion_text m.promotion)
pawn_symbol takes m from to = search (rules, bytes_append, file_bytes, capture_bytes, square_bytes, promotion_bytes)

kind_symbol : (k : Kind) (p : Parts) (m : Move) → on_board m.from ≡ true → on_board m.to ≡ true → Unmarked (kind_text k p m)
kind_symbol King p m from to = king_symbol p m to
kind_symbol Pawn p m from to = pawn_symbol _ m from to
kind_symbol k p m from to = piece_symbol k p m from to

-- with the mark
begins_append : (s t : List ℕ) → begins_with_letter s ≡ true → begins_with_letter (s ++ t) ≡ true
begins_append [] t e = cc
begins_append (c ∷ s) t e = e

marked : (s t : List ℕ) → Unmarked s → Bytes 1 t → IsMoveSymbol (s ++ t)
marked s t h last = grind (arith, common_steps, begins_append)

pub written_move_is_symbol : WrittenMoveIsSymbol
written_move_is_symbol p m h =
    let v = moved p m h in
    let st = stepped p m h in
    let text = kind_symbol v.piece.kind p m st.from_on st.to_on in
    subst IsMoveSymbol
    (sym (ap (λ o. piece_text o p m ++ mark (legal p m)) v.there))
    (marked _ (mark _) text (mark_bytes _))

-- It is read as the move.
pub written_move_is_read : OneKing → WrittenMoveIsRead
written_move_is_read one p q m position next =
    let legal_here = ap is_some next in
    let names = single one p m position legal_here in
    let form = names.0.0 in
    let read = form_read (san p m) form names.0.1 names.0.2 in
    ap (option_map (move_of_form p)) read
    ∙ ap Some ((the_one_move_is_read p form _).1
    (names.0.3, next, λ n agreed. names.1 n (form, names.0.1, names.0.2, agreed)))
