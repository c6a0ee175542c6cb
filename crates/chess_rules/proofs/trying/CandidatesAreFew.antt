-- The candidates of one kind are different squares, and at most eight.
use Rattle.chess_rules.proofs.Words.{Kind, King, Queen, Rook, Bishop, Knight, Pawn, Parts, Square, squares, same_square, is_jump, cell_of, is_clear, own, sees, is_candidate, candidates, is_aligned, FewCandidates, ◌≡◌, ℕ, ◌<◌, ◌≤◌, Bool, true, false, ◌&&◌, eqb, List, map, length, Decides, ◌⊎◌, inl, inr, refl, sym, ap, subst, arith, None, Some, filter, AllPairs, ◌≢◌, if◌then◌else◌, nat_le, nat_lt, list_all, IsDistinct, IsEquivalence, leb-true, nat_tests, nat_eq_equiv, IsDistinct-from_count, AllPairs-from_IsDistinct}
use Rattle.chess_rules.proofs.sets.AllSquares.{second_true, each_square}
use Rattle.chess_rules.proofs.lines.AttackToReach.{is_in_view, squares_same}
use Rattle.chess_rules.proofs.lines.InView.{few_in_view}
use Rattle.chess_rules.proofs.trying.FoundLists.{keep, filter_as_map, distinct_found, kept_more}

-- One square.

pub square_laws : IsEquivalence same_square
square_laws = grind arith

pub square_decides : (s t : Square) → Decides (same_square s t) (s ≡ t)
square_decides s t = grind arith

-- No square is listed twice.

squares_apart : IsDistinct eqb (map cell_of squares)
unfolding squares
squares_apart = IsDistinct-from_count nat_eq_equiv (map cell_of squares) refl

all_known : list_all (λ (s : Square). true) squares ≡ true
unfolding squares
all_known = refl

pub candidates_apart : (p : Parts) (k : Kind) (t : Square) → IsDistinct same_square (candidates p k t)
candidates_apart p k t =
    subst (IsDistinct same_square) (sym (filter_as_map (is_candidate p k t) squares))
    (distinct_found same_square (keep (is_candidate p k t)) (λ s. true) cell_of cell_of
    (λ s u _ h. kept (is_candidate p k t s) s u h) (λ s u h. ap cell_of (squares_same s u h)) squares all_known squares_apart)
  where
    kept : (x : Bool) (s u : Square) → (if x then Some s else None) ≡ Some u → cell_of u ≡ cell_of s
    kept x s u h = grind arith

-- no two of them are one, wherever the list is kept
pub apart_there : (xs ys : List Square) → ys ≡ xs → IsDistinct same_square xs → AllPairs (λ s t. s ≢ t) ys
apart_there xs ys e apart = subst (AllPairs (λ (s t : Square). s ≢ t)) (sym e) (AllPairs-from_IsDistinct square_decides xs apart)

-- All kinds but the knight see along lines.

abbrev pub is_rider : Kind → Bool
is_rider King = true
is_rider Queen = true
is_rider Rook = true
is_rider Bishop = true
is_rider Knight = false
is_rider Pawn = true

pub sees_by_way : (p : Parts) (k : Kind) (s t : Square) → is_rider k ≡ true → sees k p s t ≡ (is_aligned s t && is_clear p.board s t)
sees_by_way p k s t h = grind arith

pub kind_cases : (k : Kind) → (is_rider k ≡ true) ⊎ (k ≡ Knight)
kind_cases k = grind arith

-- They are few.

pub rider_in_view : (p : Parts) (k : Kind) (t s : Square) → is_rider k ≡ true
    → is_candidate p k t s ≡ true → is_in_view p.board t s ≡ true
rider_in_view p k t s rides h = grind (arith, nat_tests)

jumps_are_few : list_all (λ t. nat_le (length (filter (λ s. is_jump s t) squares)) 8) squares ≡ true
unfolding squares
jumps_are_few = refl

pub few_jumps : (t : Square) → t.file < 8 → t.rank < 8 → length (filter (λ s. is_jump s t) squares) ≤ 8
few_jumps t file rank = leb-true _ _ (each_square (λ t. nat_le (length (filter (λ s. is_jump s t) squares)) 8) t jumps_are_few file rank)

pub few_candidates : FewCandidates
few_candidates p k t inside =
    elim (kind_cases k) [
      | inl rides ↦ omega (
        arith,
        few_in_view p.board t file,
        kept_more (is_candidate p k t) (is_in_view p.board t) squares (λ s h. rider_in_view p k t s rides h),
      )
      | inr knight ↦ subst (λ (l : Kind). length (candidates p l t) ≤ 8) (sym knight)
          (omega (
            arith,
            few_jumps t file rank,
            kept_more (is_candidate p Knight t) (λ s. is_jump s t) squares (λ s h. second_true (own p Knight s) _ h),
          ))
    ]
  where
    below : (n : ℕ) → nat_lt n 8 ≡ true → n < 8
    below n h = grind arith

    file : t.file < 8
    file = grind arith

    rank : t.rank < 8
    rank = grind arith
