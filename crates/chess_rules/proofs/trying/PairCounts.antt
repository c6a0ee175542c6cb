-- How many pairs there are: the king's single steps and the others, target by target, and at most
-- sixteen for each.
use Rattle.chess_rules.proofs.Words.{Kind, King, Queen, Rook, Bishop, Knight, Pawn, Piece, Parts, Square, squares, same_square, is_adjacent, is_jump, at, same_kind, has_colour, has_piece, is_clear, own, sees, is_candidate, candidates, kinds, pair_count, is_aligned, king_square, square_at, is_king_step, is_untried, count_untried, count_king_steps, ◌≡◌, ℕ, ◌+◌, ◌<◌, ◌≤◌, Bool, true, false, not, ◌&&◌, ◌||◌, List, [], ◌∷◌, length, inl, inr, refl, sym, ◌∙◌, ap, subst, arith, Option, filter, list_any, sum_by, IsDistinct, sum_by-cons, sum_by-le-sum_by, length-from_same_keys, or_cases, or_left, and_from, rules, sum_by-le, common_steps}
use Rattle.chess_rules.proofs.sets.AllSquares.{first_true, second_true, same_tests, Passes, some_square, any_square, squares_long, square_in_place}
use Rattle.chess_rules.proofs.positions.OneKing.{StandsAt, king_only_there}
use Rattle.chess_rules.proofs.positions.RulesOfPosition.{Sound, king_of}
use Rattle.chess_rules.proofs.moves.CellsAfterPut.{OnBoard}
use Rattle.chess_rules.proofs.lines.AttackToReach.{attack_seen, is_in_view, adjacent_back}
use Rattle.chess_rules.proofs.trying.FoundLists.{list_any-filter}
use Rattle.chess_rules.proofs.lines.InView.{few_in_view}
use Rattle.chess_rules.proofs.trying.CandidatesAreFew.{square_laws, candidates_apart, few_jumps}

-- Sums.

pub sum_same : {X : Type 0} (f g : X → ℕ) (xs : List X) → ((x : X) → f x ≡ g x) → sum_by f xs ≡ sum_by g xs
sum_same f g xs h = grind arith

pub sum_both : {X : Type 0} (f g : X → ℕ) (xs : List X) → sum_by (λ x. f x + g x) xs ≡ sum_by f xs + sum_by g xs
sum_both f g [] = refl
sum_both f g (x ∷ xs) =
    let a : sum_by (λ y. f y + g y) (x ∷ xs) ≡ (f x + g x) + sum_by (λ y. f y + g y) xs = sum_by-cons (λ y. f y + g y) x xs in
    let b : sum_by f (x ∷ xs) ≡ f x + sum_by f xs = sum_by-cons f x xs in
    let c : sum_by g (x ∷ xs) ≡ g x + sum_by g xs = sum_by-cons g x xs in
    let d : sum_by (λ y. f y + g y) xs ≡ sum_by f xs + sum_by g xs = sum_both f g xs in
    omega arith

-- The king is the one candidate of its kind where it stands side by side with the target.

one_apart : (s : Square) → IsDistinct same_square (s ∷ [])
unfolding IsDistinct
one_apart s = (tt, tt)

one_king_near : (p : Parts) (t : Square) → Sound p → is_adjacent (king_square p.side p.board) t ≡ true → length (candidates p King t) ≡ 1
one_king_near p t sound near =
    length-from_same_keys square_laws (candidates p King t) (king ∷ []) (candidates_apart p King t) (one_apart king)
    (λ q. list_any-filter (same_square q) (is_candidate p King t) squares
    ∙ same_tests _ _ (λ h. found q (some_square (λ u. is_candidate p King t u && same_square q u) h)) (λ h. there q h))
  where
    king : Square
    king = king_square p.side p.board

    stands : StandsAt p.side p.board (king_square p.side p.board)
    stands = king_of sound p.side

    sees_near : is_adjacent (king_square p.side p.board) t ≡ true → sees King p (king_square p.side p.board) t ≡ true
    sees_near h = elim (attack_seen King p.side p.board (king_square p.side p.board) t h) [ inl e ↦ cc | inr seen ↦ seen ]

    found : (q : Square) → Passes (λ u. is_candidate p King t u && same_square q u)
        → list_any (same_square q) (king_square p.side p.board ∷ []) ≡ true
    found q w =
        let owns : own p King w.on ≡ true = first_true (own p King w.on) _ (first_true (is_candidate p King t w.on) _ w.holds) in
        let one : w.on ≡ king_square p.side p.board = king_only_there p.side p.board w.on (king_square p.side p.board) sound.long
        (sound.kings_of p.side) (record { file = w.file; rank = w.rank; king = owns }) stands in
        or_left _ _ (subst (λ (u : Square). same_square q u ≡ true) one (second_true (is_candidate p King t w.on) _ w.holds))

    there : (q : Square) → list_any (same_square q) (king_square p.side p.board ∷ []) ≡ true
        → list_any (λ u. is_candidate p King t u && same_square q u) squares ≡ true
    there q h =
        elim (or_cases (same_square q (king_square p.side p.board)) false h) [
          | inl same ↦ any_square (λ u. is_candidate p King t u && same_square q u) (king_square p.side p.board) stands.file stands.rank
              (and_from _ _ (and_from _ _ stands.king (sees_near near)) same)
          | inr none ↦ cc
        ]

-- All candidates for one target.

abbrev of_target : Parts → Square → ℕ
of_target p t = sum_by (λ k. length (candidates p k t)) kinds

-- For one target, piece by piece: it is still to be tried, or it is a king whose step was tried.

abbrev pub bit : Bool → ℕ
bit true = 1
bit false = 0

pub length_by_bits : {X : Type 0} (f : X → Bool) (xs : List X) → length (filter f xs) ≡ sum_by (λ x. bit (f x)) xs
length_by_bits f [] = refl
length_by_bits {X = X} f (x ∷ xs) = grind (arith, common_steps, sum_by-cons, length, (length_by_bits f xs))

pub sum_none : {X : Type 0} (xs : List X) → sum_by (λ x. 0) xs ≡ 0
sum_none [] = refl
sum_none (x ∷ xs) = sum_by-cons (λ y. 0) x xs ∙ ap (λ n. 0 + n) (sum_none xs)

-- sums over two lists, in either order
pub sum_swap : {X Y : Type 0} (f : X → Y → ℕ) (xs : List X) (ys : List Y)
    → sum_by (λ x. sum_by (λ y. f x y) ys) xs ≡ sum_by (λ y. sum_by (λ x. f x y) xs) ys
sum_swap f [] ys = sym (sum_none ys)
sum_swap f (x ∷ xs) ys =
    sum_by-cons (λ u. sum_by (λ y. f u y) ys) x xs
    ∙ (ap (λ n. sum_by (λ y. f x y) ys + n) (sum_swap f xs ys)
    ∙ (sym (sum_both (λ y. f x y) (λ y. sum_by (λ u. f u y) xs) ys)
    ∙ sum_same (λ y. f x y + sum_by (λ u. f u y) xs) (λ y. sum_by (λ u. f u y) (x ∷ xs)) ys (λ y. sym (sum_by-cons (λ u. f u y) x xs))))

-- the sum over the six kinds
abbrev of_kinds : (Kind → ℕ) → ℕ
of_kinds f = f King + f Queen + f Rook + f Bishop + f Knight + f Pawn

-- a knight jumps, and what else sees the square does so by a way
abbrev by_way : Kind → Bool → Bool → Bool
by_way Knight jumps way = jumps
by_way _ jumps way = way

one_kind : (v : Bool) (k : Kind) (step jumps aligned clear : Bool)
    → of_kinds (λ l. bit ((v && same_kind k l) && by_way l jumps (aligned && clear)))
    ≡ bit (((v && same_kind Knight k) && jumps)
    || ((((v && not (v && same_kind Knight k)) && aligned) && not (step && (v && same_kind King k))) && clear))
    + bit (step && ((v && same_kind King k) && (aligned && clear)))
one_kind v k step jumps aligned clear = grind arith

abbrev of_six : Parts → Square → Square → ℕ
of_six p t s = of_kinds (λ k. bit (is_candidate p k t s))

one_piece : (p : Parts) (t s : Square) → of_six p t s ≡ bit (is_untried p t s) + bit (is_king_step p t && is_candidate p King t s)
one_piece p t s = by_cell (at p.board s) (is_king_step p t) (is_jump s t) (is_aligned s t) (is_clear p.board s t)
  where
    by_cell : (cell : Option Piece) (step jumps aligned clear : Bool)
        → of_kinds (λ k. bit (has_piece p.side k cell && by_way k jumps (aligned && clear)))
        ≡ bit ((has_piece p.side Knight cell && jumps)
        || ((((has_colour p.side cell && not (has_piece p.side Knight cell)) && aligned) && not (step && has_piece p.side King cell)) && clear))
        + bit (step && (has_piece p.side King cell && (aligned && clear)))
    by_cell cell step jumps aligned clear = grind (arith, one_kind)

of_target_six : (p : Parts) (t : Square) → of_target p t ≡ sum_by (of_six p t) squares
of_target_six p t =
    sum_same (λ k. length (candidates p k t)) _ kinds (λ k. length_by_bits (is_candidate p k t) squares)
    ∙ (sum_swap (λ k s. bit (is_candidate p k t s)) kinds squares ∙ sum_same _ (of_six p t) squares (λ s. six s))
  where
    six : (s : Square) → sum_by (λ k. bit (is_candidate p k t s)) kinds ≡ of_six p t s
    six s = omega arith

-- of the six kinds one at most is there, and it is in view or a jump away
six_most : (p : Parts) (t s : Square) → of_six p t s ≤ bit (is_in_view p.board t s) + bit (is_jump s t)
six_most p t s = search rules

target_most : (p : Parts) (t : Square) → OnBoard t → of_target p t ≤ 16
target_most p t on =
    omega (
      arith,
      of_target_six p t,
      sum_by-le-sum_by (of_six p t) (λ s. bit (is_in_view p.board t s) + bit (is_jump s t)) squares (six_most p t),
      sum_both (λ s. bit (is_in_view p.board t s)) (λ s. bit (is_jump s t)) squares,
      length_by_bits (is_in_view p.board t) squares,
      length_by_bits (λ s. is_jump s t) squares,
      few_in_view p.board t on.file,
      few_jumps t on.file on.rank,
    )

king_part : (p : Parts) (t : Square) → Sound p
    → sum_by (λ s. bit (is_king_step p t && is_candidate p King t s)) squares ≡ bit (is_king_step p t)
king_part p t sound = by_step (is_king_step p t) refl
  where
    by_step : (step : Bool) → is_king_step p t ≡ step → sum_by (λ s. bit (step && is_candidate p King t s)) squares ≡ bit step
    by_step true is =
        sym (length_by_bits (is_candidate p King t) squares) ∙ one_king_near p t sound
        (adjacent_back (king_square p.side p.board) t
        ∙ first_true (is_adjacent t (king_square p.side p.board)) (not (has_colour p.side (at p.board t))) is)
    by_step false is = sum_none squares

target_parts : (p : Parts) (t : Square) → Sound p → of_target p t ≡ bit (is_king_step p t) + count_untried p t
unfolding count_untried
target_parts p t sound =
    let a : of_target p t ≡ sum_by (of_six p t) squares = of_target_six p t in
    let b : sum_by (of_six p t) squares ≡ sum_by (λ s. bit (is_untried p t s) + bit (is_king_step p t && is_candidate p King t s)) squares =
    sum_same _ _ squares (one_piece p t) in
    let c : sum_by (λ s. bit (is_untried p t s) + bit (is_king_step p t && is_candidate p King t s)) squares
    ≡ sum_by (λ s. bit (is_untried p t s)) squares + sum_by (λ s. bit (is_king_step p t && is_candidate p King t s)) squares =
    sum_both (λ s. bit (is_untried p t s)) (λ s. bit (is_king_step p t && is_candidate p King t s)) squares in
    let d : sum_by (λ s. bit (is_king_step p t && is_candidate p King t s)) squares ≡ bit (is_king_step p t) = king_part p t sound in
    let e : length (filter (is_untried p t) squares) ≡ sum_by (λ s. bit (is_untried p t s)) squares = length_by_bits (is_untried p t) squares in
    omega (arith, a, b, c, d, e)

-- All targets.

pub pair_count_parts : (p : Parts) → Sound p → count_king_steps p + sum_by (count_untried p) squares ≡ pair_count p
unfolding count_king_steps pair_count
pair_count_parts p sound =
    sym (sum_same (of_target p) (λ t. bit (is_king_step p t) + count_untried p t) squares (λ t. target_parts p t sound)
    ∙ (sum_both (λ t. bit (is_king_step p t)) (count_untried p) squares
    ∙ ap (λ n. n + sum_by (count_untried p) squares) (sym (length_by_bits (is_king_step p) squares))))

pub pair_count_most : (p : Parts) → pair_count p ≤ 1024
unfolding pair_count
pair_count_most p =
    omega (
      arith,
      squares_long,
      sum_by-le (of_target p) 16 squares (λ i d low.
          let inside : i < 64 = omega (arith, low, squares_long) in
          subst (λ t. of_target p t ≤ 16) (sym (square_in_place i d inside))
          (target_most p (square_at i) (record { file = omega arith; rank = omega arith }))),
    )
