-- Whose move a legal move is, and which ones take.
use Rattle.chess_text.proofs.Words.{◌≡◌, ℕ, List, Bool, true, false, not, ◌||◌, refl, sym, ◌∙◌, ap, arith, ◌==◌, Option, None, Some, is_some, codes, if◌then◌else◌, ◌++◌, false≢true, and_parts, and_from, nat_tests, Colour, Kind, King, Pawn, Piece, Move, Parts, Square, at, has_colour, has_piece, same_kind, is_empty, own, is_en_passant, castles_short, castles_long, is_legal, square_text, is_castling, is_capture, capture_text, castling_text, king_text, has_rivals, or_parts, false_from_ne_true, ◌&&◌, or_cases, eq-eqb, gap, Board, other, cell_attacks, is_ahead, captured_pawn, crossed, pawn_rank, double_rank, rules, common_steps, none_or_all, or-false, or-true}
use Rattle.chess_text.proofs.forms.CastlingMoves.{piece_goes, pawn_goes, pawn_passes, king_castles, passing_parts, stepped, castles_ends, castling_goes_far}

-- The piece that moves is of the side to move.

pub mover_colour : (p : Parts) (m : Move) → is_legal p m ≡ true → has_colour p.side (at p.board m.from) ≡ true
mover_colour p m h = search (rules, stepped, piece_goes, pawn_goes, pawn_passes, and_parts)

-- it stands on the origin
pub mover_stands : (p : Parts) (m : Move) → is_legal p m ≡ true → at p.board m.from ≡ None → ⊥
mover_stands p m h nothing = false≢true (ap (λ cell. has_colour p.side cell) (sym nothing) ∙ mover_colour p m h)

pub mover : (p : Parts) (m : Move) (x : Piece) → is_legal p m ≡ true → at p.board m.from ≡ Some x → own p x.kind m.from ≡ true
mover p m x h there = grind (arith, common_steps, and_from, mover_colour)

-- a piece of one kind is of no other
pub other_kind : (c : Colour) (j k : Kind) (cell : Option Piece)
    → has_piece c j cell ≡ true → same_kind j k ≡ false → has_piece c k cell ≡ false
other_kind c j k cell h apart = grind (arith, nat_tests)

-- Another piece takes exactly what stands on its target.

pub piece_takes : (p : Parts) (m : Move) (k : Kind) → own p k m.from ≡ true
    → same_kind k Pawn ≡ false → is_capture p m ≡ not (is_empty p.board m.to)
piece_takes p m k h apart =
    cc (
      false_from_ne_true (is_en_passant p m) (λ g. false≢true (sym (other_kind _ k Pawn _ h apart) ∙ (passing_parts p m g).0)),
      or-false (not (is_empty _ m.to)),
    )

-- The kinds that have rivals.

pub pawn_has_no_rivals : (k : Kind) → has_rivals k ≡ true → same_kind k Pawn ≡ false
pawn_has_no_rivals k h = grind arith

pub may_have_rivals : (k : Kind) → (k ≡ King → ⊥) → (k ≡ Pawn → ⊥) → has_rivals k ≡ true
may_have_rivals k h g = grind arith

-- as the code asks
pub something : (p : Parts) (m : Move) (cell : Option Piece) (b : Bool)
    → cell ≡ at p.board m.to → b ≡ is_some cell → b ≡ not (is_empty p.board m.to)
something p m cell b e f = grind arith

-- The king.

abbrev pub king_text_by : Bool → Bool → Parts → Move → List ℕ
king_text_by short long p m =
    if short then castling_text false else if long then castling_text true else codes "K" ++ capture_text p m ++ square_text m.to

pub castling_written : (p : Parts) (m : Move) → is_castling p m ≡ true → castling_text (m.to.file == 2) ≡ king_text p m
castling_written p m h = by_wing _ _ refl refl h
  where
    by_wing : (a b : Bool) → castles_short p m ≡ a → castles_long p m ≡ b
        → (a || b) ≡ true → castling_text (m.to.file == 2) ≡ king_text_by a b p m
    by_wing a b e f g = search (rules, castles_ends)

pub step_written : (p : Parts) (m : Move) → is_castling p m ≡ false → king_text p m ≡ codes "K" ++ capture_text p m ++ square_text m.to
step_written p m h = let (short, long) = or_parts (castles_short p m) _ h in rw (short, long) refl

-- The ways in which a pawn goes.

-- the four ways in which it goes
pub data PawnWay (p : Parts) (m : Move) : Type 0 where
  takes : gap m.from.file m.to.file ≡ 1 → is_ahead p.side m.from.rank m.to.rank ≡ true → is_empty p.board m.to ≡ false → PawnWay p m
  passes : gap m.from.file m.to.file ≡ 1 → is_ahead p.side m.from.rank m.to.rank ≡ true
      → has_piece (other p.side) Pawn (at p.board (captured_pawn m)) ≡ true → is_en_passant p m ≡ true → PawnWay p m
  advances : m.from.file ≡ m.to.file → is_ahead p.side m.from.rank m.to.rank ≡ true → is_empty p.board m.to ≡ true → PawnWay p m
  doubles : m.from.file ≡ m.to.file → m.from.rank ≡ pawn_rank p.side → m.to.rank ≡ double_rank p.side
      → is_empty p.board (crossed m) ≡ true → is_empty p.board m.to ≡ true → PawnWay p m

pawn_attack : (c : Colour) (cell : Option Piece) (b : Board) (s t : Square) → has_piece c Pawn cell ≡ true
    → cell_attacks cell b s t ≡ true → (gap s.file t.file ≡ 1) × (is_ahead c s.rank t.rank ≡ true)
pawn_attack c cell b s t h g = grind (arith, nat_tests)

advance_parts : (f t : ℕ) (ahead free : Bool) → (((f == t) && ahead) && free) ≡ true → (f ≡ t) × (ahead ≡ true) × (free ≡ true)
advance_parts f t ahead free h = grind (arith, nat_tests)

double_parts : (f t r a s b : ℕ) (over free : Bool) → (((f == t) && ((r == a) && (s == b))) && (over && free)) ≡ true
    → (f ≡ t) × (r ≡ a) × (s ≡ b) × (over ≡ true) × (free ≡ true)
double_parts f t r a s b over free h = grind (arith, nat_tests)

pub pawn_way : (p : Parts) (m : Move) → is_legal p m ≡ true → own p Pawn m.from ≡ true → PawnWay p m
pawn_way p m h pawn_stands =
    search (
      rules,
      stepped,
      piece_goes,
      false≢true,
      pawn_goes,
      pawn_passes,
      passing_parts,
      king_castles,
      pawn_attack,
      other_kind,
      and_parts,
      castling_goes_far,
      advance_parts,
      double_parts,
      none_or_all,
      or_cases,
    )

pub gap_apart : (a b : ℕ) → a ≡ b → gap a b ≡ 1 → ⊥
gap_apart a b e h = omega arith

-- It takes exactly if it changes its file.

sideways : (a b : ℕ) → gap a b ≡ 1 → true ≡ not (a == b)
sideways a b h = grind (arith, nat_tests)

pub pawn_takes : (p : Parts) (m : Move) → own p Pawn m.from ≡ true → is_legal p m ≡ true → is_capture p m ≡ not (m.from.file == m.to.file)
pawn_takes p m stands legal = by_way (pawn_way p m legal stands)
  where
    straight : m.from.file ≡ m.to.file → is_empty p.board m.to ≡ true → is_capture p m ≡ not (m.from.file == m.to.file)
    straight file free =
        cc (
          false_from_ne_true (is_en_passant p m) (λ h.
              gap_apart m.from.file m.to.file file (pawn_attack p.side (at p.board m.from) p.board m.from m.to stands (passing_parts p m h).1).0),
          eq-eqb m.from.file m.to.file file,
        )

    by_way : PawnWay p m → is_capture p m ≡ not (m.from.file == m.to.file)
    by_way h = grind (arith, common_steps, sideways, or-true, straight, doubles)
