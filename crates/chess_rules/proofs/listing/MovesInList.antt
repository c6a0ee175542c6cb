-- A move is in the list exactly if it is legal, and the position after it is with it.
use Rattle.chess_rules.proofs.Words.{Promotion, Move, Parts, Played, Square, squares, cell_of, legal, every_promotion, every_move, legal_among, legal_moves, moves_between, played, ◌≡◌, zero, suc, List, [], ◌∷◌, map, Option, None, Some, option_map, inl, inr, ◌⊎◌, refl, sym, ◌∙◌, ap, subst, arith, cons_option, filter_map, flat_map, common_steps, rules, Contains, ◌↔◌, Contains-append_left, Contains-append_right}
use Rattle.chess_rules.specs.declared.piece.Promotion.TheVariants.{Queen, Rook, Bishop, Knight}
use Rattle.chess_rules.proofs.sets.AllSquares.{square_at-cell_of, square_in_place, squares_long}
use Rattle.chess_rules.proofs.moves.CellsAfterPut.{OnBoard}
use Rattle.chess_rules.proofs.moves.LegalToPosition.{Legal, from_on, legal_means, to_on}

-- Elements of lists.

here : {X : Type 0} (x : X) (xs : List X) → Contains (x ∷ xs) x
here x xs = (0, omega arith, refl)

later : {X : Type 0} (x : X) (xs : List X) (y : X) → Contains xs y → Contains (x ∷ xs) y
later x xs y (k, low, is) = (suc k, omega arith, is)

element : {X : Type 0} (x : X) (xs : List X) (y : X) → Contains (x ∷ xs) y → (x ≡ y) ⊎ Contains xs y
element x xs y (zero, low, is) = inl is
element x xs y (suc k, low, is) = inr (k, omega arith, is)

none_in : {X : Type 0} (y : X) → Contains [] y → ⊥
none_in y (k, low, is) = omega arith

module _ {X Y : Type 0} where
  in_map : (f : X → Y) (xs : List X) (x : X) → Contains xs x → Contains (map f xs) (f x)
  in_map f xs x c = grind (arith, common_steps, none_in, element, map)

  in_flat_map : (f : X → List Y) (xs : List X) (x : X) (y : Y) → Contains xs x → Contains (f x) y → Contains (flat_map f xs) y
  in_flat_map f [] x y c d = absurd (none_in x c)
  in_flat_map f (z ∷ zs) x y c d =
      elim (element z zs x c) [
        | inl is ↦ Contains-append_left (f z) (flat_map f zs) y (subst (λ (w : X). Contains (f w) y) (sym is) d)
        | inr more ↦ Contains-append_right (f z) (flat_map f zs) y (in_flat_map f zs x y more d)
      ]

  in_found : (h : X → Option Y) (xs : List X) (x : X) (y : Y) → Contains xs x → h x ≡ Some y → Contains (filter_map h xs) y
  in_found h [] x y c e = absurd (none_in x c)
  in_found h (z ∷ zs) x y c e =
      elim (element z zs x c) [
        | inl is ↦ subst (λ (o : Option Y). Contains (cons_option o (filter_map h zs)) y) (sym (ap h is ∙ e)) (here y (filter_map h zs))
        | inr more ↦ behind (h z) (in_found h zs x y more e)
      ]
    where
      behind : (o : Option Y) → Contains (filter_map h zs) y → Contains (cons_option o (filter_map h zs)) y
      behind None there = there
      behind (Some w) there = later w (filter_map h zs) y there

  found_in : (h : X → Option Y) (xs : List X) (y : Y) → Contains (filter_map h xs) y → (x : X) × (h x ≡ Some y)
  found_in h [] y c = absurd (none_in y c)
  found_in h (z ∷ zs) y c = grind (arith, common_steps, element, (found_in h zs y))

-- Every move of the board is in the list of all moves.

in_squares : (s : Square) → OnBoard s → Contains squares s
in_squares s on =
    (cell_of s, omega (arith, squares_long, on.file, on.rank), square_in_place (cell_of s) s (omega (arith, on.file, on.rank)) ∙ square_at-cell_of s on.file)

in_promotions : (o : Option Promotion) → Contains every_promotion o
in_promotions None = (0, omega arith, refl)
in_promotions (Some Queen) = (1, omega arith, refl)
in_promotions (Some Rook) = (2, omega arith, refl)
in_promotions (Some Bishop) = (3, omega arith, refl)
in_promotions (Some Knight) = (4, omega arith, refl)

in_every_move : (m : Move) → OnBoard m.from → OnBoard m.to → Contains every_move m
unfolding every_move
in_every_move m from to =
    in_flat_map (λ s. flat_map (moves_between s) squares) squares m.from m (in_squares m.from from)
    (in_flat_map (moves_between m.from) squares m.to m (in_squares m.to to)
    (in_map (λ o. record { from = m.from; to = m.to; promotion = o }) every_promotion m.promotion (in_promotions m.promotion)))

-- What is in the list.

played_as : (p q : Parts) (m n : Move) (o : Option Parts) → legal p n ≡ o
    → option_map {U = Played} (λ r. record { mv = n; next = r }) o ≡ Some (record { mv = m; next = q }) → legal p m ≡ Some q
played_as p q m n o e is = search rules

pub legal_exactly : (p q : Parts) (m : Move) → (legal p m ≡ Some q) ↔ Contains (legal_moves p) (record { mv = m; next = q })
unfolding legal_among
legal_exactly p q m = (there, back)
  where
    there : legal p m ≡ Some q → Contains (filter_map (played p) every_move) (record { mv = m; next = q })
    there e =
        let l : Legal p m q = legal_means p m q e in
        in_found (played p) every_move m (record { mv = m; next = q }) (in_every_move m (from_on m l.on) (to_on m l.on))
        (ap (option_map {U = Played} (λ r. record { mv = m; next = r })) e)

    back : Contains (filter_map (played p) every_move) (record { mv = m; next = q }) → legal p m ≡ Some q
    back c = let (n, e) = found_in (played p) every_move (record { mv = m; next = q }) c in played_as p q m n (legal p n) refl e
