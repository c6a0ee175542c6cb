use Rattle.chess_rules.proofs.Words.{Colour, King, Square, squares, same_square, Board, at, cell_of, kings, has_piece, lone, king_square, square_at, Places, members, ◌≡◌, ℕ, suc, ◌+◌, ◌<◌, Bool, true, ◌&&◌, List, [], ◌∷◌, cond, length, map, get_or, refl, sym, ◌∙◌, ap, arith, None, Some, filter, ◌==◌, if◌then◌else◌, list_any, range_with_len, and_from, common_steps}
use Rattle.chess_rules.proofs.lines.AttackToReach.{squares_same}
use Rattle.chess_rules.proofs.positions.OneKing.{StandsAt, king_stands, tally, tally-count_by}
use Rattle.chess_rules.proofs.positions.RulesOfPosition.{same_square-refl}
use Rattle.chess_rules.proofs.sets.AllSquares.{any_square, by_places}
use Rattle.chess_rules.proofs.sets.SetsToSquares.{members_are}
use Rattle.chess_rules.proofs.trying.FoundLists.{list_any-filter}
use Rattle.chess_rules.proofs.board.Board.king.Goals as goal

-- as many squares pass as elements
counted : {X : Type 0} (test : Square → Bool) (p : X → Bool) (d : X) (a : ℕ) (xs : List X)
    → ((i : ℕ) → i < length xs → test (square_at (a + i)) ≡ p (get_or xs i d))
    → length (filter test (map square_at (range_with_len a (length xs)))) ≡ tally p xs
counted test p d a [] h = refl
counted test p d a (x ∷ xs) h =
    by_first (test (square_at a)) (p x) (filter test (map square_at (range_with_len (a + 1) (length xs))))
    (ap (λ j. test (square_at j)) (omega arith) ∙ h 0 (omega arith))
    (counted test p d (a + 1) xs (λ i low. ap (λ j. test (square_at j)) (omega arith) ∙ h (suc i) (omega arith)))
  where
    by_first : (v w : Bool) (kept : List Square) → v ≡ w → length kept ≡ tally p xs
        → length (cond v (square_at a ∷ kept) kept) ≡ cond w (1 + tally p xs) (tally p xs)
    by_first v w kept same few = grind arith

lone_king : (c : Colour) (b : Board) (w : ℕ) → length b ≡ 64 → Places w (λ s. has_piece c King (at b s))
    → lone (members w) ≡ (if kings c b == 1 then Some (king_square c b) else None)
lone_king c b w long places = by_members (members w) many here
  where
    kept : members w ≡ filter (λ s. has_piece c King (at b s)) squares
    kept = members_are w (λ s. has_piece c King (at b s)) places.of

    many : length (members w) ≡ kings c b
    many =
        ap length (kept ∙ ap (filter (λ s. has_piece c King (at b s))) (by_places ∙ ap (λ n. map square_at (range_with_len 0 n)) (sym long)))
        ∙ (counted (λ s. has_piece c King (at b s)) (has_piece c King) None 0 b
        (λ i low. let same : cell_of (square_at (0 + i)) ≡ i = omega arith in ap (λ k. has_piece c King (get_or b k None)) same)
        ∙ tally-count_by (has_piece c King) b)

    here : kings c b ≡ 1 → list_any (same_square (king_square c b)) (members w) ≡ true
    here one = seen (king_stands c b long one)
      where
        seen : StandsAt c b (king_square c b) → list_any (same_square (king_square c b)) (members w) ≡ true
        seen k =
            ap (list_any (same_square (king_square c b))) kept
            ∙ (list_any-filter (same_square (king_square c b)) (λ s. has_piece c King (at b s)) squares
            ∙ any_square (λ s. has_piece c King (at b s) && same_square (king_square c b) s)
            (king_square c b) k.file k.rank (and_from _ _ k.king (same_square-refl (king_square c b))))

    by_members : (xs : List Square) → length xs ≡ kings c b → (kings c b ≡ 1 → list_any (same_square (king_square c b)) xs ≡ true)
        → lone xs ≡ (if kings c b == 1 then Some (king_square c b) else None)
    by_members xs none found = grind (arith, common_steps, squares_same)

pub returns : goal.returns
returns c = c.only.ensures ∙ lone_king c.args.colour c.args.self.now c.pieces.result c.requires c.pieces.ensures
