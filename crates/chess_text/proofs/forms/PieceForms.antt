-- What a form of no castling names: all its moves come from candidates.
use Rattle.chess_text.proofs.Words.{◌≡◌, ℕ, ◌<◌, Bool, true, false, ◌&&◌, List, get_or, refl, Option, None, length, filter_map, All, IsPermutation, both_ways, and_parts, filter_passes, All-weaker, All-permutation, IsPermutation-sym, Kind, Promotion, Parts, Square, squares, own, legal, is_candidate, candidates, CandidatesComplete, Form, Man, Played, same_promotion, describes, played, move_from, agreeing, only, move_of_form, piece_move_fits, arith, ap, Some, is_some, Move, is_legal, with_next, common_steps, some_of}
use Rattle.chess_text.proofs.forms.CastlingMoves.{played_unless}
use Rattle.chess_text.proofs.forms.OnlyElement.{filter_map-map, filter_map-filter, only_permuted}

-- what the form names from that square
abbrev pub from_square : Parts → Form → Square → Option Promotion → Square → Option Played
from_square p f to promotion s = played (describes p f (move_from to promotion s)) p (move_from to promotion s)

pub same_promotion-refl : (x : Option Promotion) → same_promotion x x ≡ true
same_promotion-refl x = grind arith

rest_of : (a b c d e : Bool) → a ≡ true → c ≡ true → d ≡ true → ((a && b) && ((c && d) && e)) ≡ (b && e)
rest_of a b c d e f g h = grind arith

module _ (p : Parts) (k : Kind) (file rank : Option ℕ) (to : Square) (promotion : Option Promotion) where
  -- from a square with such a piece
  pub describes_own : (s : Square) → own p k s ≡ true
      → describes p (Man k file rank to promotion) (move_from to promotion s) ≡ piece_move_fits p file rank (move_from to promotion s)
  describes_own s stands = grind (arith, common_steps, rest_of)

  pub tried_own : (s : Square) → own p k s ≡ true → played (piece_move_fits p file rank (move_from to promotion s)) p (move_from to promotion s)
      ≡ from_square p (Man k file rank to promotion) to promotion s
  tried_own s stands = cc (describes_own s stands)

  -- from no other square than a candidate
  only_candidates : CandidatesComplete → (s : Square) → is_candidate p k to s ≡ false
      → from_square p (Man k file rank to promotion) to promotion s ≡ None
  only_candidates complete s other =
      played_unless _ p (move_from to promotion s)
      (λ e legal_here.
      let (q, leads) = some_of (legal p (move_from to promotion s)) legal_here in
      both_ways (is_candidate p k to s) other (complete p q (move_from to promotion s) k leads (and_parts _ _ (and_parts _ _ e).0).0))

  -- what is found from the candidates, in any order, decides
  pub reads_candidates : CandidatesComplete → (xs : List Square) → IsPermutation (candidates p k to) xs
      → only (filter_map (from_square p (Man k file rank to promotion) to promotion) xs) ≡ move_of_form p (Man k file rank to promotion)
  unfolding agreeing
  reads_candidates complete xs perm =
      cc (
        only_permuted (from_square p (Man k file rank to promotion) to promotion) xs
            (candidates p k to) (IsPermutation-sym (candidates p k to) xs perm),
        filter_map-filter (from_square p (Man k file rank to promotion) to promotion) (is_candidate p k to) (only_candidates complete) squares,
        filter_map-map (λ m. played (describes p (Man k file rank to promotion) m) p m) (move_from to promotion) squares,
      )

-- such a piece stands on each candidate
pub candidates_own : (p : Parts) (k : Kind) (t : Square) (xs : List Square)
    → IsPermutation (candidates p k t) xs → All (λ s. own p k s ≡ true) xs
candidates_own p k t xs perm =
    All-permutation (λ s. own p k s ≡ true) _ xs perm
    (All-weaker (λ s. is_candidate p k t s ≡ true) (λ s. own p k s ≡ true) (λ s h. (and_parts _ _ h).0) _ (filter_passes _ squares))

-- what the code tries from the i-th of them
pub tried_at : (p : Parts) (k : Kind) (file rank : Option ℕ) (to : Square) (promotion : Option Promotion) (xs : List Square)
    → IsPermutation (candidates p k to) xs → (i : ℕ) (s : Square) (o : Option Played) → i < length xs → s ≡ get_or xs i s
    → o ≡ played (piece_move_fits p file rank (move_from to promotion s)) p (move_from to promotion s)
    → o ≡ from_square p (Man k file rank to promotion) to promotion (get_or xs i s)
tried_at p k file rank to promotion xs perm i s o low is tried =
    cc (tried_own p k file rank to promotion s (rw is (candidates_own p k to xs perm i s low)))

-- The move that a search has kept, with the position after it.

abbrev pub with_position : Parts → Option Move → Option Played
with_position p None = None
with_position p (Some m) = with_next m (legal p m)

-- such a move is legal
abbrev pub IsLegalIfAny : Parts → Option Move → Type 0
IsLegalIfAny p None = Unit {0}
IsLegalIfAny p (Some m) = is_legal p m ≡ true

some_next : (m : Move) (o : Option Parts) → is_some o ≡ true → is_some (with_next m o) ≡ true
some_next m o h = grind arith

pub kept_is_some : (p : Parts) (o : Option Move) → IsLegalIfAny p o → is_some (with_position p o) ≡ is_some o
kept_is_some p None h = refl
kept_is_some p (Some m) h = some_next m _ h

-- a legal move has a position after it
pub kept_next : (p : Parts) (m : Move) → is_legal p m ≡ true → (x : Played) × (with_next m (legal p m) ≡ Some x)
kept_next p m h = let (q, leads) = some_of (legal p m) h in (record { mv = m; next = q }, ap (with_next m) leads)

-- what is found from a move is it with that position, if it is legal and fits, and else nothing
pub fitting_is_played : (p : Parts) (m : Move) (fits : Bool) → (is_legal p m && fits) ≡ true → played fits p m ≡ with_next m (legal p m)
fitting_is_played p m fits h = ap (λ b. played b p m) (and_parts _ fits h).1

pub other_is_not_played : (p : Parts) (m : Move) (fits : Bool) → (is_legal p m && fits) ≡ false → played fits p m ≡ None
other_is_not_played p m false h = refl
other_is_not_played p m true h = by_next _ h
  where
    by_next : (o : Option Parts) → (is_some o && true) ≡ false → with_next m o ≡ None
    by_next o g = grind arith
