use Rattle.chess_rules.proofs.Words.{Colour, White, Black, is_attacked, Board, kings, other, Square, king_square, ◌≡◌, ◌∙◌, ap, arith, length, king_attacked, Option, None, Some, ◌==◌, if◌then◌else◌}
use Rattle.chess_rules.proofs.positions.RulesOfPosition.{own_king_seen, other_king_seen}
use Rattle.chess_rules.proofs.position.Position.build_on.Goals as goal

-- both kings are found, and each is seen from its square
record Found (b : Board) (c : Colour) (k l : Square) : Type 0 where
  white : kings White b ≡ 1
  black : kings Black b ≡ 1
  king : k ≡ king_square c b
  other_king : l ≡ king_square (other c) b
  seen : length b ≡ 64 → is_attacked b c l ≡ king_attacked b (other c)

one_of : (b : Board) (c : Colour) (o : Option Square) (k : Square) → o ≡ (if kings c b == 1 then Some (king_square c b) else None)
    → o ≡ Some k → (kings c b ≡ 1) × (k ≡ king_square c b)
one_of b c o k is some = grind arith

found : (b : Board) (c d : Colour) (o p : Option Square) (k l : Square) → d ≡ other c
    → o ≡ (if kings c b == 1 then Some (king_square c b) else None)
    → p ≡ (if kings d b == 1 then Some (king_square d b) else None) → o ≡ Some k → p ≡ Some l → Found b c k l
found b c d o p k l turn own theirs first second = by_colour c turn (one_of b c o k own first) (one_of b d p l theirs second)
  where
    with_both : (e : Colour) → kings White b ≡ 1 → kings Black b ≡ 1 → k ≡ king_square e b → l ≡ king_square (other e) b → Found b e k l
    with_both e one two here there = record {
      white = one;
      black = two;
      king = here;
      other_king = there;
      seen = λ long. other_king_seen b e l long one two there;
    }

    by_colour : (e : Colour) → d ≡ other e → (kings e b ≡ 1) × (k ≡ king_square e b)
        → (kings d b ≡ 1) × (l ≡ king_square d b) → Found b e k l
    by_colour White turn (one, here) (two, there) = with_both White one (grind arith) here (grind arith)
    by_colour Black turn (one, here) (two, there) = with_both Black (grind arith) one here (grind arith)

pub returns-then-has_pawn_on_edge : goal.returns-then-has_pawn_on_edge
returns-then-has_pawn_on_edge c =
    let f = found c.args.board c.args.side _ _ _ _ _ c.other.ensures c.king.ensures c.king-2.ensures c.in-Some-Some.is-0 c.in-Some-Some.is-1 in
    grind (arith, f.white, f.black)

pub returns-then-is_attacked : goal.returns-then-is_attacked
returns-then-is_attacked c =
    let f = found c.args.board c.args.side _ _ _ _ _ c.other.ensures c.king.ensures c.king-2.ensures c.in-Some-Some.is-0 c.in-Some-Some.is-1 in
    grind (arith, f.white, f.black, f.seen (grind arith))

pub returns-then-not-target_fits : goal.returns-then-not-target_fits
returns-then-not-target_fits c =
    let f = found c.args.board c.args.side _ _ _ _ _ c.other.ensures c.king.ensures c.king-2.ensures c.in-Some-Some.is-0 c.in-Some-Some.is-1 in
    grind (arith, f.white, f.black, f.seen (grind arith))

pub returns-then-half-gt99999 : goal.returns-then-half-gt99999
returns-then-half-gt99999 c =
    let f = found c.args.board c.args.side _ _ _ _ _ c.other.ensures c.king.ensures c.king-2.ensures c.in-Some-Some.is-0 c.in-Some-Some.is-1 in
    grind (arith, f.white, f.black, f.seen (grind arith))

pub returns : goal.returns
returns c =
    let f = found c.args.board c.args.side _ _ _ _ _ c.other.ensures c.king.ensures c.king-2.ensures c.in-Some-Some.is-0 c.in-Some-Some.is-1 in
    grind (arith, f.white, f.black, f.seen (grind arith))

pub invariant_of-result : goal.invariant_of-result
invariant_of-result c =
    let f = found c.args.board c.args.side _ _ _ _ _ c.other.ensures c.king.ensures c.king-2.ensures c.in-Some-Some.is-0 c.in-Some-Some.is-1 in
    record {
      position = grind (arith, f.white, f.black, f.seen (grind arith));
      king = f.king;
      other_king = f.other_king;
      checked = c.is_attacked-checked.ensures ∙ (ap (λ d. is_attacked c.args.board d c.in-Some-Some.king) c.other-2.ensures
          ∙ own_king_seen c.args.board c.args.side c.in-Some-Some.king (grind arith) f.white f.black f.king);
    }
