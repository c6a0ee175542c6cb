-- Which move is tried next, and which are tried after it.
use Rattle.chess_rules.proofs.Words.{at, has_colour, Move, Parts, Square, Tries, one_move, is_tried, Places, pending_tries, tries_from, tries_left, tries_to, with_later, ◌≡◌, ℕ, List, [], ◌∷◌, ◌++◌, Option, None, Some, refl, arith, append_assoc, flat_map, HasNone, TakesLowest, common_steps}
use Rattle.chess_rules.proofs.sets.SetsToSquares.{members_are, no_member}
use Rattle.chess_rules.proofs.trying.PairsFromOrigin.{own_squares}

-- lists, one after another
first_of_three : {X : Type 0} (x : X) (xs ys zs whole : List X) → whole ≡ x ∷ xs → (whole ++ ys) ++ zs ≡ x ∷ (xs ++ (ys ++ zs))
first_of_three x xs ys zs whole e = grind (arith, append_assoc)

module _ (p : Parts) (tries : Tries) where
  -- the pending move
  pub pending_first : (m : Move) (rest : Option Move) → tries.pending ≡ Some m → with_later m ≡ m ∷ pending_tries rest
      → tries_left p tries ≡ m ∷ tries_left p (record { pending = rest; origin = tries.origin; targets = tries.targets; origins = tries.origins })
  unfolding pending_tries tries_left
  pending_first m rest is first = grind (arith, common_steps)

  -- the first move to the next target of the origin
  pub target_first : (t : Square) (left : ℕ) (m : Move) (rest : Option Move) → tries.pending ≡ None → TakesLowest tries.targets left t
      → m ≡ one_move p tries.origin t → with_later m ≡ m ∷ pending_tries rest
      → tries_left p tries ≡ m ∷ tries_left p (record { pending = rest; origin = tries.origin; targets = left; origins = tries.origins })
  unfolding pending_tries tries_left tries_to
  target_first t left m rest none taken is first = grind (arith, common_steps, first_of_three)

  -- the next origin
  pub origin_first : (s : Square) (targets rest : ℕ) → tries.pending ≡ None → HasNone tries.targets → TakesLowest tries.origins rest s
      → Places targets (is_tried p s)
      → tries_left p (record { pending = tries.pending; origin = s; targets = targets; origins = rest }) ≡ tries_left p tries
  unfolding pending_tries tries_left tries_from
  origin_first s targets rest none no_target taken there = grind (arith, common_steps, members_are)

  pub none_left : tries.pending ≡ None → HasNone tries.targets → HasNone tries.origins → tries_left p tries ≡ []
  unfolding pending_tries tries_left
  none_left none no_target no_origin = rw (none, no_target.none, no_origin.none) refl

-- All moves that are tried, at the start.
pub all_left : (p : Parts) (tries : Tries) → tries.pending ≡ None → tries.targets ≡ 0
    → Places tries.origins (λ s. has_colour p.side (at p.board s)) → tries_left p tries ≡ flat_map (tries_from p) (own_squares p)
unfolding pending_tries tries_left
all_left p tries none no_target there = grind (arith, common_steps, no_member, members_are)
