-- Two positions have the same key exactly if they are the same.
use Rattle.chess_text.proofs.forms.AgreeingAreFound.{in_squares, any_contained}
use Rattle.chess_text.proofs.positions.CanonicalText.{canonical_spells, last_rules}
use Rattle.chess_text.proofs.positions.FenLaws.{once}
use Rattle.chess_rules.specs.Attacks.{king_attacked}
use Rattle.chess_rules.specs.Position.{one_king, pawn_on_edge}
unfoldable use Rattle.chess_text.proofs.Words.{digits}
use Rattle.chess_rules.specs.Step.{is_target}
use Rattle.chess_text.proofs.forms.CastlingMoves.{castles_ends, no_pawn, stepped}
use Rattle.chess_text.proofs.Words.{nat_tests, squares, Any-from_list_any, Promotion, ◌||◌, is_some, option_map, if_safe, is_legal, after, board_after, carried, en_passant_board, is_on_board, is_pawn_step, is_piece_step, is_en_passant, castles, Wing, short_right, long_right, short_wing, long_wing, own, Pawn, Move, not, ◌&&◌, ◌==◌, nat_le, and_parts, and_from, is_none, other, White, Black, Kings, PawnOnEdge, KingCapturable, TargetRank, NumberRange, Bool, true, false, refl, sym, subst, codes, common_steps, None, Some, if◌then◌else◌, Parts, Fen, fen_text, target_fits, is_position, position_fault, ◌≡◌, ◌≤◌, ℕ, List, [], ◌∷◌, ◌++◌, ◌∙◌, ap, arith, append_assoc, length, length-append, join_with_byte, Result, Ok, Err, OnOk, Option, Board, Colour, Rights, Square, placement_text, side_text, rights_text, target_text, rules, passing_means, same_tests, squares_same, IsOk, KeysTell, SamePosition, takes_en_passant, move_to, usable_rights, usable_target, if_taken_on, is_taken_on, position_key, last_rank}
use Rattle.chess_text.proofs.positions.BoardToText.{length-placement_text}
use Rattle.chess_text.proofs.positions.FieldsOfText.{length-side_text, length-rights_text, length-target_text}

-- four fields written one after another
pub four_written : (a b c d t u v w x : List ℕ) → t ≡ a ++ 32 ∷ [] → u ≡ t ++ b → v ≡ u ++ 32 ∷ c → w ≡ v ++ 32 ∷ [] → x ≡ w ++ d
    → x ≡ join_with_byte 32 (a ∷ b ∷ c ∷ d ∷ [])
four_written a b c d t u v w x e f g h i = grind (arith, common_steps, append_assoc)

-- 71 bytes for the board, 1 for the side, 4 for the rights, 2 for the target, and three spaces
pub length-key : (b : Board) (c : Colour) (r : Rights) (t : Option Square)
    → length (join_with_byte 32 (placement_text b ∷ side_text c ∷ rights_text r ∷ target_text t ∷ [])) ≤ 81
length-key b c r t = search (rules, length-placement_text, length-side_text, length-rights_text, length-target_text, length, length-append)

-- what a copy that has room holds
pub copied : {A E : Type 0} (r : Result A E) (P : Type 0) → IsOk r → OnOk r P → P
copied (Ok x) P is h = h
copied (Err e) P is h = absurd (cc (is))

-- The position that a key spells: it has the rights and the target that can still be used, and its
-- numbers are those of the first position.
abbrev bare : Parts → Parts
bare p = record { board = p.board; side = p.side; rights = usable_rights p; target = usable_target p; half = 0; full = 1 }

-- its text is the key, and the two numbers
bare_text : (p : Parts) → fen_text (bare p) ≡ position_key p ++ codes " 0 1"
unfolding digits
bare_text p = four_then (placement_text p.board) (side_text p.side) (rights_text (usable_rights p)) (target_text (usable_target p))
  where
    four_then : (a b c d : List ℕ)
        → join_with_byte 32 (a ∷ b ∷ c ∷ d ∷ codes "0" ∷ codes "1" ∷ []) ≡ join_with_byte 32 (a ∷ b ∷ c ∷ d ∷ []) ++ codes " 0 1"
    four_then a b c d = grind (arith, common_steps)

usable_fits : (p : Parts) (o : Option Square) → target_fits p.side o ≡ true → target_fits p.side (if_taken_on p o) ≡ true
usable_fits p o h = grind (arith, common_steps)

no_fault : (a b c d now e : Bool) → is_none (if not a then Some Kings else if b then Some PawnOnEdge else if c then Some KingCapturable
    else if not d then Some TargetRank else if not e then Some NumberRange else None) ≡ true → (d ≡ true → now ≡ true)
    → is_none (if not a then Some Kings else if b then Some PawnOnEdge else if c then Some KingCapturable else if not now then Some TargetRank
    else if not true then Some NumberRange else None) ≡ true
no_fault a b c d now e h fits = grind arith

bare_is_position : (p : Parts) → is_position p ≡ true → is_position (bare p) ≡ true
bare_is_position p h =
    let both = and_parts (length p.board == 64) (is_none (position_fault p)) h in
    and_from (length p.board == 64) (is_none (position_fault (bare p))) both.0
    (no_fault (one_king p.board White && one_king p.board Black) (pawn_on_edge p.board) (king_attacked p.board (other p.side))
    (target_fits p.side p.target) (target_fits p.side (usable_target p)) (nat_le p.half 99999 && nat_le p.full 99999) both.1
    (usable_fits p p.target))

-- what tells a position from others
pub record SameBare (p q : Parts) : Type 0 where
  board : p.board ≡ q.board
  side : p.side ≡ q.side
  rights : usable_rights p ≡ usable_rights q
  target : usable_target p ≡ usable_target q

module _ (p q : Parts) where
  key_tells : is_position p ≡ true → is_position q ≡ true → position_key p ≡ position_key q → SameBare p q
  key_tells at_p at_q same =
      let one = canonical_spells (bare p) (bare_is_position p at_p) in
      let two = canonical_spells (bare q) (bare_is_position q at_q) in
      let texts : fen_text (bare p) ≡ fen_text (bare q) = bare_text p ∙ ap (λ (s : List ℕ). s ++ codes " 0 1") same ∙ sym (bare_text q) in
      let both = once (fen_text (bare q)) (bare p) (bare q) (subst (λ (s : List ℕ). Fen s (bare p)) texts one) two in
      record {
        board = ap (λ (r : Parts). r.board) both;
        side = ap (λ (r : Parts). r.side) both;
        rights = ap (λ (r : Parts). r.rights) both;
        target = ap (λ (r : Parts). r.target) both;
      }

  told_by : SameBare p q → position_key p ≡ position_key q
  told_by s = cc (s.board, s.side, s.rights, s.target)

-- Who takes en passant is decided by the board, the side to move and the target.

target_is : (o : Option Square) (s : Square) → is_target o s ≡ true → o ≡ Some s
target_is None s h = cc
target_is (Some t) s h = ap Some (squares_same t s h)

no_castling : (p : Parts) (m : Move) (right : Bool) (wing : Wing) → own p Pawn m.from ≡ true → castles p m right wing ≡ false
no_castling p m right wing pawn = grind (arith, common_steps, pawn, castles_ends, no_pawn)

-- whether the king is safe on the board after a move
abbrev pub safe_on : Colour → Option Board → Bool
safe_on c None = false
safe_on c (Some b) = not (king_attacked b (other (other c)))

pub legal_by : (p : Parts) (m : Move) (o : Option Board) → is_some (if_safe (option_map (after p m) o)) ≡ safe_on p.side o
legal_by p m o = grind (arith, common_steps, is_some)

-- a move is legal by the board after it
pub legal_is : (p : Parts) (m : Move) → is_legal p m ≡ (is_on_board m && safe_on p.side (board_after p m))
legal_is p m = grind (arith, common_steps, is_some, legal_by)

-- a pawn's move is legal by the board and the side to move, and by whether it is en passant
abbrev pawn_board : Parts → Move → Bool → Option Board
pawn_board p m passes = if is_piece_step p m || is_pawn_step p m then Some (carried p m) else if passes then Some (en_passant_board p m) else None

pawn_legal : (p : Parts) (m : Move) → own p Pawn m.from ≡ true
    → is_legal p m ≡ (is_on_board m && safe_on p.side (pawn_board p m (is_en_passant p m)))
pawn_legal p m pawn = legal_is p m ∙ ap (λ (o : Option Board). is_on_board m && safe_on p.side o) boards
  where
    boards : board_after p m ≡ pawn_board p m (is_en_passant p m)
    boards =
        rw (no_castling p m (short_right p.side p.rights) short_wing pawn, no_castling p m (long_right p.side p.rights) long_wing pawn) refl

-- Parts that differ in their rights and their numbers alone.
abbrev with_others : Parts → Parts → Parts
with_others p q = record { board = p.board; side = p.side; rights = q.rights; target = p.target; half = q.half; full = q.full }

passing_alike : (p q : Parts) (m : Move) → takes_en_passant p m ≡ takes_en_passant (with_others p q) m
passing_alike p q m = by_test _ refl
  where
    by_test : (b : Bool) → is_en_passant p m ≡ b → (is_en_passant p m && is_legal p m) ≡ (is_en_passant p m && is_legal (with_others p q) m)
    by_test false e = rw e refl
    by_test true e =
        let pawn = (passing_means p m e).pawn in ap (λ (b : Bool). is_en_passant p m && b) (pawn_legal p m pawn ∙ sym (pawn_legal (with_others p q) m pawn))

takes_alike : (p q : Parts) (m : Move) → p.board ≡ q.board → p.side ≡ q.side → p.target ≡ q.target → takes_en_passant p m ≡ takes_en_passant q m
takes_alike p q m board side target =
    passing_alike p q m ∙ ap (λ (r : Parts). takes_en_passant r m) same
  where
    made : Board → Colour → Option Square → Parts
    made b c t = record { board = b; side = c; rights = q.rights; target = t; half = q.half; full = q.full }

    same : with_others p q ≡ q
    same = grind (arith, common_steps, target)

some_none : (t : Square) → ◌≡◌ {A = Option Square} (Some t) None → ⊥
some_none t h = cc

-- a usable target is the target
usable_some : (p : Parts) (o : Option Square) (t : Square) → if_taken_on p o ≡ Some t → o ≡ Some t
usable_some p o t h = grind (arith, common_steps)

taken_some : (p : Parts) (t s : Square) → p.target ≡ Some t → takes_en_passant p (move_to t s) ≡ true → usable_target p ≡ Some t
taken_some p t s is h =
    let on = (stepped p (move_to t s) (and_parts (is_en_passant p (move_to t s)) _ h).1).from_on in
    let taken = any_contained (λ u. takes_en_passant p (move_to t u)) squares s (in_squares s on) h in
    ap (if_taken_on p) is ∙ ap (λ (b : Bool). if b then Some t else None) taken

-- a pawn that takes en passant is not promoted
unpromoted : (c : Colour) (t : Square) (x : Option Promotion) → target_fits c (Some t) ≡ true
    → (if t.rank == last_rank c then is_some x else is_none x) ≡ true → x ≡ None
unpromoted c t x fits h = grind (arith, nat_tests)

module _ (p q : Parts) where
  takes_too : is_position p ≡ true → SameBare p q → (m : Move) → takes_en_passant p m ≡ true → takes_en_passant q m ≡ true
  takes_too at_p same m h =
      let pass = passing_means p m (and_parts (is_en_passant p m) _ h).0 in
      let target_here = target_is p.target m.to pass.target in
      let fits = subst (λ (o : Option Square). target_fits p.side o ≡ true) target_here (last_rules p at_p).0 in
      let plain = unpromoted p.side m.to m.promotion fits pass.fits in
      let here = subst (λ (x : Option Promotion). takes_en_passant p (record { from = m.from; to = m.to; promotion = x }) ≡ true) plain h in
      let usable = sym same.target ∙ taken_some p m.to m.from target_here here in
      let target = target_here ∙ sym (usable_some q q.target m.to usable) in
      sym (takes_alike p q m same.board same.side target) ∙ h

  -- what is usable in one position is usable in one that is the same
  usable_too : SamePosition p q → (t : Square) → usable_target p ≡ Some t → usable_target q ≡ Some t
  usable_too same t h = by_taken _ refl
    where
      is : p.target ≡ Some t
      is = usable_some p p.target t h

      by_taken : (b : Bool) → is_taken_on p t ≡ b → usable_target q ≡ Some t
      by_taken true e =
          let (k, s, low, same_s, one) = Any-from_list_any (λ s. takes_en_passant p (move_to t s)) squares e in
          let other_one = sym (same.en_passant (move_to t s)) ∙ one in
          taken_some q t s (target_is q.target t (passing_means q (move_to t s) (and_parts (is_en_passant q (move_to t s)) _ other_one).0).target) other_one
      by_taken false e = absurd (some_none t (sym h ∙ ap (if_taken_on p) is ∙ ap (λ (b : Bool). if b then Some t else None) e))

same_option : (a b : Option Square) → ((t : Square) → a ≡ Some t → b ≡ Some t) → ((t : Square) → b ≡ Some t → a ≡ Some t) → a ≡ b
same_option a b f g = grind (arith, common_steps)

pub turned : (p q : Parts) → SamePosition p q → SamePosition q p
turned p q same = record { board = sym same.board; side = sym same.side; rights = sym same.rights; en_passant = λ m. sym (same.en_passant m) }

turned_bare : (p q : Parts) → SameBare p q → SameBare q p
turned_bare p q same = record { board = sym same.board; side = sym same.side; rights = sym same.rights; target = sym same.target }

pub keys_tell : KeysTell
keys_tell p q at_p at_q = (
  λ same.
      let bare_same = key_tells p q at_p at_q same in
      record {
        board = bare_same.board;
        side = bare_same.side;
        rights = bare_same.rights;
        en_passant = λ m. same_tests _ _ (takes_too p q at_p bare_same m) (takes_too q p at_q (turned_bare p q bare_same) m);
      },
  λ same.
      told_by p q (record {
        board = same.board;
        side = same.side;
        rights = same.rights;
        target = same_option _ _ (usable_too p q same) (usable_too q p (turned p q same));
      }),
)
