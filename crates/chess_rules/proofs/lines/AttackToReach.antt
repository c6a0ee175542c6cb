-- What a piece attacks it reaches over empty squares, whatever its kind.
use Rattle.chess_rules.proofs.Words.{Colour, Kind, King, Queen, Rook, Bishop, Knight, Pawn, Piece, Square, squares, gap, same_square, is_adjacent, is_jump, in_line, on_diagonal, strictly_between, between_on_rank, between_on_file, between_on_diagonal, Board, at, is_empty, has_colour, same_colour, same_kind, is_clear, is_ahead, kind_attacks, cell_attacks, attacks, is_attacked, has_kind, is_aligned, is_near, may_attack, reaches, reaches_from, ◌≡◌, ℕ, ◌<◌, ◌≤◌, Bool, true, false, not, ◌&&◌, ◌||◌, ◌⊎◌, refl, arith, Option, None, Some, is_none, is_some, list_any, nat_tests, or_cases, and_from, other, rules, common_steps}
use Rattle.chess_rules.proofs.sets.AllSquares.{first_true, second_true, all_squares, any_same, implied}

-- a piece is on s, and all squares between s and t are empty
abbrev pub is_open : Board → Square → Square → Bool
is_open b t s = is_some (at b s) && is_clear b s t

-- such a piece is on a rank, a file or a diagonal with t
abbrev pub is_in_view : Board → Square → Square → Bool
is_in_view b t s = is_aligned s t && is_open b t s

-- What a cell holds is determined.

pub kinds_same : (k l : Kind) → same_kind k l ≡ true → k ≡ l
kinds_same k l h = grind arith

pub colours_same : (c d : Colour) → same_colour c d ≡ true → c ≡ d
colours_same c d h = grind arith

pub squares_same : (s t : Square) → same_square s t ≡ true → s ≡ t
squares_same s t h = grind arith

pub other-other : (c : Colour) → other (other c) ≡ c
other-other c = grind arith

pub adjacent_back : (s t : Square) → is_adjacent s t ≡ is_adjacent t s
adjacent_back s t = grind arith

pub none_or_all : (c : Colour) (cell : Option Piece) → has_colour c cell ≡ true → is_none cell ≡ false
none_or_all c cell h = grind arith

pub not_empty : (b : Board) (s : Square) → is_some (at b s) ≡ true → is_empty b s ≡ false
not_empty b s h = grind arith

-- The way is clear if each square between is empty, and if there is none.

pub clear_if : (b : Board) (s t : Square)
    → ((u : Square) → u.file < 8 → u.rank < 8 → strictly_between s u t ≡ true → is_empty b u ≡ true) → is_clear b s t ≡ true
clear_if b s t h =
    all_squares (λ u. not (strictly_between s u t) || is_empty b u) (λ u f r. implied (strictly_between s u t) (is_empty b u) (h u f r))

pub between_cases : {A : Type 0} (s u t : Square) → strictly_between s u t ≡ true → (between_on_rank s u t ≡ true → A)
    → (between_on_file s u t ≡ true → A) → (between_on_diagonal s u t ≡ true → A) → A
between_cases s u t h rank file cross = search (rules, or_cases)

near_clear : (b : Board) (s t : Square) → gap s.file t.file ≤ 1 → gap s.rank t.rank ≤ 1 → is_clear b s t ≡ true
near_clear b s t files ranks = clear_if b s t (λ u _ _ h. absurd (between_cases s u t h (on_rank u) (on_file u) (on_cross u)))
  where
    on_rank : (u : Square) → between_on_rank s u t ≡ true → ⊥
    on_rank u h = grind arith

    on_file : (u : Square) → between_on_file s u t ≡ true → ⊥
    on_file u h = grind arith

    on_cross : (u : Square) → between_on_diagonal s u t ≡ true → ⊥
    on_cross u h = grind (arith, nat_tests)

pub jump_clear : (b : Board) (s t : Square) → is_jump s t ≡ true → is_clear b s t ≡ true
jump_clear b s t jump = clear_if b s t (λ u _ _ h. absurd (between_cases s u t h (on_rank u) (on_file u) (on_cross u)))
  where
    on_rank : (u : Square) → between_on_rank s u t ≡ true → ⊥
    on_rank u h = grind arith

    on_file : (u : Square) → between_on_file s u t ≡ true → ⊥
    on_file u h = grind arith

    line : on_diagonal s t ≡ true → ⊥
    line h = grind (arith, nat_tests)

    on_cross : (u : Square) → between_on_diagonal s u t ≡ true → ⊥
    on_cross u h = grind (arith, nat_tests)

-- Squares side by side see one another.

near_aligned : (s t : Square) → gap s.file t.file ≤ 1 → gap s.rank t.rank ≤ 1 → not (same_square s t) ≡ true → is_aligned s t ≡ true
near_aligned s t files ranks apart = grind arith

pub near : (b : Board) (s t : Square) → gap s.file t.file ≤ 1 → gap s.rank t.rank ≤ 1
    → not (same_square s t) ≡ true → (is_aligned s t && is_clear b s t) ≡ true
near b s t files ranks apart = and_from _ _ (near_aligned s t files ranks apart) (near_clear b s t files ranks)

pub apart_by_file : (s t : Square) → gap s.file t.file ≡ 1 → not (same_square s t) ≡ true
apart_by_file s t h = grind arith

pub ahead_gap : (c : Colour) (a b : ℕ) → is_ahead c a b ≡ true → gap a b ≡ 1
ahead_gap c a b h = grind arith

pub adjacent_seen : (b : Board) (s t : Square) → is_adjacent s t ≡ true → (is_aligned s t && is_clear b s t) ≡ true
adjacent_seen b s t h = grind (arith, common_steps, first_true, near)

pub pawn_seen : (c : Colour) (b : Board) (s t : Square) → reaches Pawn c s t ≡ true → (is_aligned s t && is_clear b s t) ≡ true
pawn_seen c b s t h = grind (arith, ahead_gap, near, apart_by_file)

-- what a piece attacks it sees, but for a knight
pub attack_seen : (k : Kind) (c : Colour) (b : Board) (s t : Square) → kind_attacks k c b s t ≡ true
    → (k ≡ Knight) ⊎ ((is_aligned s t && is_clear b s t) ≡ true)
attack_seen k c b s t h = grind (arith, adjacent_seen, pawn_seen)

-- A piece attacks what it would if all squares between were empty, by a clear way.

adjacent_clear : (b : Board) (s t : Square) → is_adjacent s t ≡ true → is_clear b s t ≡ true
adjacent_clear b s t h = second_true (is_aligned s t) _ (adjacent_seen b s t h)

pawn_clear : (c : Colour) (b : Board) (s t : Square) → reaches Pawn c s t ≡ true → is_clear b s t ≡ true
pawn_clear c b s t h = second_true (is_aligned s t) _ (pawn_seen c b s t h)

pub with_second : (x y : Bool) → (x ≡ true → y ≡ true) → x ≡ (x && y)
with_second x y h = grind (arith, h)

pub attack_is : (k : Kind) (c : Colour) (b : Board) (s t : Square) → kind_attacks k c b s t ≡ (reaches k c s t && is_clear b s t)
attack_is k c b s t = grind (arith, common_steps, with_second, adjacent_clear, jump_clear, pawn_clear)

pub cell_attack_is : (cell : Option Piece) (b : Board) (s t : Square) → cell_attacks cell b s t ≡ (reaches_from cell s t && is_clear b s t)
cell_attack_is None b s t = refl
cell_attack_is (Some x) b s t = attack_is x.kind x.colour b s t

-- from other squares no piece reaches it
pub reached : (cell : Option Piece) (s t : Square) → (is_aligned s t || is_jump s t) ≡ false → reaches_from cell s t ≡ false
reached cell s t out = grind (arith, nat_tests)

module _ (b : Board) (c : Colour) where
  pub attacker_is : (s t : Square) → (has_colour c (at b s) && attacks b s t) ≡ (may_attack b c t s && is_clear b s t)
  attacker_is s t = grind (arith, common_steps, cell_attack_is)

  pub attacked_is : (t : Square) → is_attacked b c t ≡ list_any (λ s. may_attack b c t s && is_clear b s t) squares
  attacked_is t =
      any_same (λ s. has_colour c (at b s) && attacks b s t) (λ s. may_attack b c t s && is_clear b s t) squares (λ s. attacker_is s t)

  -- of the pieces that may attack, those that see the square do, and those a jump away
  pub seen_attacker : (t s : Square)
      → (may_attack b c t s && ((is_aligned s t && is_clear b s t) || is_jump s t)) ≡ (may_attack b c t s && is_clear b s t)
  seen_attacker t s = grind (arith, common_steps, reached, jump_clear)

-- The sets of the code, piece by piece.

pub slider_is : (c : Colour) (cell : Option Piece) (s t : Square)
    → (((in_line s t && (has_kind Rook cell || has_kind Queen cell)) || (on_diagonal s t && (has_kind Bishop cell || has_kind Queen cell)))
    && has_colour c cell)
    ≡ ((has_colour c cell && reaches_from cell s t) && not (is_near cell))
slider_is c None s t = grind arith
slider_is c (Some x) s t = search rules

-- whether a piece of the kind reaches a square that is a jump away, adjacent, and so on
abbrev reach_of : Kind → Bool → Bool → Bool → Bool → Bool → Bool
reach_of King jump adjacent pawn line diagonal = adjacent
reach_of Queen jump adjacent pawn line diagonal = line || diagonal
reach_of Rook jump adjacent pawn line diagonal = line
reach_of Bishop jump adjacent pawn line diagonal = diagonal
reach_of Knight jump adjacent pawn line diagonal = jump
reach_of Pawn jump adjacent pawn line diagonal = pawn

reach_is : (k : Kind) (c : Colour) (s t : Square)
    → reaches k c s t ≡ reach_of k (is_jump s t) (is_adjacent s t) (reaches Pawn c s t) (in_line s t) (on_diagonal s t)
reach_is k c s t = grind (arith, common_steps)

pub attacker_of : (c : Colour) (cell : Option Piece) (s t : Square)
    → (((((is_jump s t && has_kind Knight cell) || (is_adjacent s t && has_kind King cell)) || (reaches Pawn c s t && has_kind Pawn cell))
    && has_colour c cell)
    || ((has_colour c cell && reaches_from cell s t) && not (is_near cell)))
    ≡ (has_colour c cell && reaches_from cell s t)
attacker_of c None s t = grind (arith, common_steps)
attacker_of c (Some x) s t = by_colour (same_colour c x.colour) refl
  where
    by_kind : (k : Kind) (j a p l d : Bool) → (((((j && same_kind Knight k) || (a && same_kind King k)) || (p && same_kind Pawn k)) && true)
        || ((true && reach_of k j a p l d) && not (same_kind King k || (same_kind Knight k || same_kind Pawn k)))) ≡ (true && reach_of k j a p l d)
    by_kind k j a p l d = grind arith

    others : (n r m : Bool) → ((n && false) || ((false && r) && m)) ≡ (false && r)
    others n r m = grind arith

    by_colour : (v : Bool) → same_colour c x.colour ≡ v
        → (((((is_jump s t && same_kind Knight x.kind) || (is_adjacent s t && same_kind King x.kind))
        || (reaches Pawn c s t && same_kind Pawn x.kind)) && same_colour c x.colour)
        || ((same_colour c x.colour && reaches x.kind x.colour s t)
        && not (same_kind King x.kind || (same_kind Knight x.kind || same_kind Pawn x.kind))))
        ≡ (same_colour c x.colour && reaches x.kind x.colour s t)
    by_colour false e = grind (arith, common_steps)
    by_colour true e = grind (arith, common_steps, colours_same, reach_is, by_kind)
