-- The rules of a position, one by one.
use Rattle.chess_rules.proofs.Words.{Colour, White, Black, King, Parts, PositionFault, Kings, PawnOnEdge, KingCapturable, TargetRank, NumberRange, Square, same_square, Board, at, other, kings, is_pawn, is_attacked, king_attacked, is_position, one_king, pawn_on_edge, target_fits, own, king_square, is_check, parts_of, FitsPosition, ◌≡◌, ℕ, ◌<◌, ◌≤◌, Bool, true, false, not, ◌&&◌, ◌||◌, refl, sym, ◌∙◌, ap, subst, arith, length, ◌==◌, nat_le, Option, None, Some, is_none, if◌then◌else◌, and_from, false_from_ne_true, rules}
use Rattle.chess_rules.specs.declared.position.Position.TheInside.{Inside}
use Rattle.chess_rules.proofs.sets.AllSquares.{first_true, second_true, same_tests, Passes, some_square, any_square, equal_from, equal_tests}
use Rattle.chess_rules.proofs.lines.AttackToReach.{squares_same, other-other}
use Rattle.chess_rules.proofs.positions.OneKing.{StandsAt, king_stands, king_only_there, king_attacked_there}
use Rattle.chess_rules.proofs.moves.CellsAfterPut.{OnBoard}

pub record Sound (p : Parts) : Type 0 where
  pub long : length p.board ≡ 64
  pub kings_of : (c : Colour) → kings c p.board ≡ 1
  pub edge : pawn_on_edge p.board ≡ false
  pub safe : king_attacked p.board (other p.side) ≡ false
  pub target : target_fits p.side p.target ≡ true
  pub half : p.half ≤ 99999
  pub full : p.full ≤ 99999

module _ {p : Parts} (sound : Sound p) (c : Colour) where
  -- where the king of the colour stands
  pub king_of : StandsAt c p.board (king_square c p.board)
  king_of = king_stands c p.board sound.long (sound.kings_of c)

  -- whether it is attacked is seen from there
  pub attack_on_king : king_attacked p.board c ≡ is_attacked p.board (other c) (king_square c p.board)
  attack_on_king = king_attacked_there c p.board sound.long (sound.kings_of c)

pub record NoFault (kings edge attacked target numbers : Bool) : Type 0 where
  pub kings_ok : kings ≡ true
  pub edge_ok : edge ≡ false
  pub attacked_ok : attacked ≡ false
  pub target_ok : target ≡ true
  pub numbers_ok : numbers ≡ true

abbrev fault_of : Bool → Bool → Bool → Bool → Bool → Option PositionFault
fault_of kings edge attacked target numbers =
    if not kings then Some Kings
    else if edge then Some PawnOnEdge
    else if attacked then Some KingCapturable
    else if not target then Some TargetRank
    else if not numbers then Some NumberRange
    else None

no_fault : (a b c d e : Bool) → is_none (fault_of a b c d e) ≡ true → NoFault a b c d e
no_fault a b c d e h = grind arith

none_from_facts : (a b c d e : Bool) → NoFault a b c d e → is_none (fault_of a b c d e) ≡ true
none_from_facts a b c d e h = grind arith

at_most_holds : (m n : ℕ) → m ≤ n → nat_le m n ≡ true
at_most_holds m n h = grind arith

pub sound_from_position : (p : Parts) → is_position p ≡ true → Sound p
sound_from_position p h =
    search (rules, no_fault, second_true, equal_from, first_true)

pub position_from_sound : (p : Parts) → Sound p → is_position p ≡ true
position_from_sound p s =
    and_from _ _ (equal_tests _ 64 s.long)
    (none_from_facts (one_king p.board White && one_king p.board Black) (pawn_on_edge p.board)
    (king_attacked p.board (other p.side)) (target_fits p.side p.target) (nat_le p.half 99999 && nat_le p.full 99999)
    (record {
      kings_ok = and_from _ _ (equal_tests _ 1 (s.kings_of White)) (equal_tests _ 1 (s.kings_of Black));
      edge_ok = s.edge;
      attacked_ok = s.safe;
      target_ok = s.target;
      numbers_ok = and_from _ _ (at_most_holds p.half 99999 s.half) (at_most_holds p.full 99999 s.full);
    }))

-- what is stored of a position
pub record Stored (a : Inside) (p : Parts) : Type 0 where
  pub position : is_position p ≡ true
  pub side : a.side ≡ p.side
  pub board : a.board ≡ p.board
  pub king : a.king ≡ king_square p.side p.board
  pub other_king : a.other_king ≡ king_square (other p.side) p.board
  pub checked : a.checked ≡ is_check p

pub stored : (a : Inside) (p : Parts) → FitsPosition a → parts_of a ≡ p → Stored a p
stored a p kept view =
    subst (λ (q : Parts). Stored a q) view
    (record { position = kept.position; side = refl; board = refl; king = kept.king; other_king = kept.other_king; checked = kept.checked })

-- whether a king is attacked is seen from its square

each_king : (b : Board) → kings White b ≡ 1 → kings Black b ≡ 1 → (c : Colour) → kings c b ≡ 1
each_king b white black White = white
each_king b white black Black = black

pub own_king_seen : (b : Board) (c : Colour) (k : Square) → length b ≡ 64 → kings White b ≡ 1
    → kings Black b ≡ 1 → k ≡ king_square c b → is_attacked b (other c) k ≡ king_attacked b c
own_king_seen b c k long white black is = ap (is_attacked b (other c)) is ∙ sym (king_attacked_there c b long (each_king b white black c))

pub other_king_seen : (b : Board) (c : Colour) (k : Square) → length b ≡ 64 → kings White b ≡ 1
    → kings Black b ≡ 1 → k ≡ king_square (other c) b → is_attacked b c k ≡ king_attacked b (other c)
other_king_seen b c k long white black is = ap (λ d. is_attacked b d k) (sym (other-other c)) ∙ own_king_seen b (other c) k long white black is

-- rank 1 or 8
abbrev pub is_edge : ℕ → Bool
is_edge rank = (rank == 0) || (rank == 7)

pub no_pawn_there : (b : Board) → pawn_on_edge b ≡ false → (u : Square) → OnBoard u → is_edge u.rank ≡ true → is_pawn (at b u) ≡ false
no_pawn_there b h u on edge = search (rules, edge, false_from_ne_true, any_square, and_from)

pub no_pawn_on_edge : (b : Board)
    → ((u : Square) → OnBoard u → is_edge u.rank ≡ true → is_pawn (at b u) ≡ false) → pawn_on_edge b ≡ false
no_pawn_on_edge b h =
    false_from_ne_true (pawn_on_edge b) (λ g. by_pawn (some_square (λ s. ((s.rank == 0) || (s.rank == 7)) && is_pawn (at b s)) g))
  where
    by_pawn : Passes (λ s. ((s.rank == 0) || (s.rank == 7)) && is_pawn (at b s)) → ⊥
    by_pawn w = grind arith

pub same_square-refl : (s : Square) → same_square s s ≡ true
same_square-refl s = grind arith

-- the king of the side to move is on its square alone
pub own_king : (p : Parts) (s k : Square) → is_position p ≡ true → s.file < 8
    → s.rank < 8 → k ≡ king_square p.side p.board → own p King s ≡ same_square s k
own_king p s k position file rank is = same_tests _ _ there back ∙ ap (same_square s) (sym is)
  where
    sound : Sound p
    sound = sound_from_position p position

    king : StandsAt p.side p.board (king_square p.side p.board)
    king = king_of sound p.side

    there : own p King s ≡ true → same_square s (king_square p.side p.board) ≡ true
    there h =
        subst (λ t. same_square s t ≡ true)
        (king_only_there p.side p.board s (king_square p.side p.board) sound.long
        (sound.kings_of p.side) (record { file = file; rank = rank; king = h }) king) (same_square-refl s)

    back : same_square s (king_square p.side p.board) ≡ true → own p King s ≡ true
    back h = subst (λ t. own p King t ≡ true) (sym (squares_same s (king_square p.side p.board) h)) king.king
