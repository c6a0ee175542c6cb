-- All squares between two are empty exactly if the set of them has no piece; and the squares of a
-- set from which the way is so clear.
use Rattle.chess_rules.proofs.Words.{Piece, Square, squares, strictly_between, Board, at, cell_of, is_empty, is_clear, square_at, Bits, has, has_any, HasNone, Places, ◌≡◌, ℕ, ◌<◌, Bool, not, ◌&&◌, ◌||◌, List, [], ◌∷◌, refl, sym, ◌∙◌, ap, arith, Option, is_none, is_some, list_all, list_any, common_steps}
use Rattle.chess_rules.proofs.sets.SetsToSquares.{any_of_set, places_and}

all_unless : {X : Type 0} (p q r : X → Bool) (xs : List X) → ((x : X) → q x ≡ not (r x))
    → list_all (λ x. not (p x) || r x) xs ≡ not (list_any (λ x. p x && q x) xs)
all_unless p q r [] h = refl
all_unless p q r (x ∷ xs) h = grind (arith, common_steps, (all_unless p q r xs h))

filled : (o : Option Piece) → is_some o ≡ not (is_none o)
filled o = grind arith

pub clear_by_set : (b : Board) (s t : Square) (v w r : ℕ) → Places v (λ u. strictly_between s u t)
    → Places w (λ u. is_some (at b u)) → Bits r (λ i. has v i && has w i) → not (has_any r) ≡ is_clear b s t
clear_by_set b s t v w r between pieces both =
    ap not (any_of_set r (λ u. strictly_between s u t && is_some (at b u))
    (places_and v w r (λ u. strictly_between s u t) (λ u. is_some (at b u)) both between pieces))
    ∙ sym (all_unless (λ u. strictly_between s u t) (λ u. is_some (at b u)) (is_empty b) squares (λ u. filled (at b u)))

-- The squares of a set from which the way is clear, square by square.
module _ (test : Square → Bool) (set : ℕ) where
  -- of the set, those are kept that pass or are left
  pub record Keeps (left kept : ℕ) : Type 0 where
    pub of : (i : ℕ) → i < 64 → has kept i ≡ (has set i && (has left i || test (square_at i)))

  pub none_left : (left kept : ℕ) → HasNone left → Keeps left kept → Places kept (λ s. has set (cell_of s) && test s)
  none_left left kept none w = grind (arith, common_steps)
