-- In two positions that are the same the same moves are legal.
use Rattle.chess_text.proofs.Words.{◌≡◌, Bool, true, false, ◌&&◌, ◌||◌, refl, sym, ◌∙◌, ap, subst, Option, None, Some, if◌then◌else◌, and_parts, and_from, both_ways, Colour, White, Black, King, Rook, Move, Parts, Rights, Board, own, home, Wing, short_wing, long_wing, short_right, long_right, castles, castles_short, castles_long, castled, is_legal, carried, en_passant_board, is_on_board, is_pawn_step, is_piece_step, is_en_passant, arith, common_steps, false_from_ne_true, same_tests, SamePosition, SameMovesLegal, takes_en_passant, usable_rights, stand_at_home}
use Rattle.chess_text.proofs.forms.CastlingMoves.{castles_ends, no_pawn, passing_parts}
use Rattle.chess_text.proofs.keys.KeyToPosition.{legal_is, safe_on, turned}

-- the board after a move, by what it is
abbrev board_by : Parts → Move → Bool → Bool → Bool → Bool → Option Board
board_by p m plain passes short long =
    if plain then Some (carried p m)
    else if passes then Some (en_passant_board p m)
    else if short then Some (castled p m short_wing.rook short_wing.crossing)
    else if long then Some (castled p m long_wing.rook long_wing.crossing)
    else None

-- Another position with this board and this side to move.
abbrev like : Parts → Parts → Parts
like p q = record { board = p.board; side = p.side; rights = q.rights; target = q.target; half = q.half; full = q.full }

record Castling (p : Parts) (m : Move) (has_right : Bool) (wing : Wing) : Type 0 where
  right : has_right ≡ true
  rest : castles p m true wing ≡ true
  home : stand_at_home p.board p.side wing.rook ≡ true
  no_passing : (q : Parts) → q.board ≡ p.board → q.side ≡ p.side → is_en_passant q m ≡ false

castling : (p : Parts) (m : Move) (right : Bool) (wing : Wing) → castles p m right wing ≡ true → Castling p m right wing
castling p m false wing h = cc
castling p m true wing h =
    let (from, to, plain, ready) = castles_ends p m true wing h in
    let stand = (and_parts (own p King (home p 4) && own p Rook (home p wing.rook)) _ ready).0 in
    let king = (and_parts (own p King (home p 4)) (own p Rook (home p wing.rook)) stand).0 in
    record {
      right = refl;
      rest = h;
      home = stand;
      no_passing = λ q board side. by_test q board side from king _ refl;
    }
  where
    by_test : (q : Parts) → q.board ≡ p.board → q.side ≡ p.side → m.from ≡ home p 4 → own p King (home p 4) ≡ true
        → (b : Bool) → is_en_passant q m ≡ b → b ≡ false
    by_test q board side from king b e = grind (arith, common_steps, passing_parts, no_pawn)

-- a right that can be used in one position is one in the other
short_kept : (b : Board) (c : Colour) (r s : Rights) → stand_at_home b c short_wing.rook ≡ true → short_right c r ≡ true
    → ((right : Rights → Bool) → right (usable_rights (record { board = b; side = c; rights = r; target = None; half = 0; full = 1 }))
    ≡ right (usable_rights (record { board = b; side = c; rights = s; target = None; half = 0; full = 1 })))
    → short_right c s ≡ true
short_kept b White r s home right same = (and_parts s.white_short _ (sym (same (λ x. x.white_short)) ∙ and_from r.white_short _ right home)).0
short_kept b Black r s home right same = (and_parts s.black_short _ (sym (same (λ x. x.black_short)) ∙ and_from r.black_short _ right home)).0

long_kept : (b : Board) (c : Colour) (r s : Rights) → stand_at_home b c long_wing.rook ≡ true → long_right c r ≡ true
    → ((right : Rights → Bool) → right (usable_rights (record { board = b; side = c; rights = r; target = None; half = 0; full = 1 }))
    ≡ right (usable_rights (record { board = b; side = c; rights = s; target = None; half = 0; full = 1 })))
    → long_right c s ≡ true
long_kept b White r s home right same = (and_parts s.white_long _ (sym (same (λ x. x.white_long)) ∙ and_from r.white_long _ right home)).0
long_kept b Black r s home right same = (and_parts s.black_long _ (sym (same (λ x. x.black_long)) ∙ and_from r.black_long _ right home)).0

module _ (p q : Parts) (m : Move) (rights : usable_rights p ≡ usable_rights (like p q))
    (passing : (n : Move) → takes_en_passant p n ≡ takes_en_passant (like p q) n) where
  abbrev other_one : Parts
  other_one = like p q

  short_too : castles_short p m ≡ true → castles_short other_one m ≡ true
  short_too h =
      let c = castling p m (short_right p.side p.rights) short_wing h in
      let right = short_kept p.board p.side p.rights q.rights c.home c.right (λ get. ap get rights) in
      subst (λ (b : Bool). castles p m b short_wing ≡ true) (sym right) c.rest

  long_too : castles_long p m ≡ true → castles_long other_one m ≡ true
  long_too h =
      let c = castling p m (long_right p.side p.rights) long_wing h in
      let right = long_kept p.board p.side p.rights q.rights c.home c.right (λ get. ap get rights) in
      subst (λ (b : Bool). castles p m b long_wing ≡ true) (sym right) c.rest

  castles_short_alike : castles_short other_one m ≡ true → castles_short p m ≡ true
  castles_short_alike h =
      let c = castling other_one m (short_right p.side q.rights) short_wing h in
      let right = short_kept p.board p.side q.rights p.rights c.home c.right (λ get. ap get (sym rights)) in
      subst (λ (b : Bool). castles p m b short_wing ≡ true) (sym right) c.rest

  abbrev plain : Bool
  plain = is_piece_step p m || is_pawn_step p m

  abbrev is_good : Bool → Bool → Bool → Bool → Bool
  is_good a b c d = is_on_board m && safe_on p.side (board_by p m a b c d)

  never : (on : Bool) → (on && false) ≡ true → ⊥
  never true h = cc
  never false h = cc

  by_way : (a b c d : Bool) → plain ≡ a → is_en_passant p m ≡ b → castles_short p m ≡ c → castles_long p m ≡ d
      → is_good a b c d ≡ true → is_good a (is_en_passant other_one m) (castles_short other_one m) (castles_long other_one m) ≡ true
  by_way true b c d e f g i h = h
  by_way false true c d e f g i h =
      let legal_one = legal_is p m ∙ rw (e, f) h in
      let takes = sym (passing m) ∙ and_from (is_en_passant p m) (is_legal p m) f legal_one in
      let both = and_parts (is_en_passant other_one m) (is_legal other_one m) takes in
      sym (ap (λ (x : Bool). is_good x (is_en_passant other_one m) (castles_short other_one m) (castles_long other_one m)) e)
      ∙ sym (legal_is other_one m) ∙ both.1
  by_way false false true d e f g i h =
      let none = (castling p m (short_right p.side p.rights) short_wing g).no_passing other_one refl refl in
      rw (none, short_too g) h
  by_way false false false true e f g i h =
      let none = (castling p m (long_right p.side p.rights) long_wing i).no_passing other_one refl refl in
      let not_short = false_from_ne_true (castles_short other_one m) (λ short. both_ways _ g (castles_short_alike short)) in
      rw (none, not_short, long_too i) h
  by_way false false false false e f g i h = absurd (never (is_on_board m) h)

  legal_too : is_legal p m ≡ true → is_legal other_one m ≡ true
  legal_too h =
      legal_is other_one m
      ∙ by_way plain (is_en_passant p m) (castles_short p m) (castles_long p m) refl refl refl refl (sym (legal_is p m) ∙ h)

-- the same of any position that is the same
legal_in : (p q : Parts) (m : Move) → SamePosition p q → is_legal p m ≡ true → is_legal q m ≡ true
legal_in p q m same h =
    subst (λ (r : Parts). is_legal r m ≡ true) is
    (legal_too p q m (same.rights ∙ ap usable_rights (sym is))
    (λ n. same.en_passant n ∙ ap (λ (r : Parts). takes_en_passant r n) (sym is)) h)
  where
    made : Board → Colour → Parts
    made b c = record { board = b; side = c; rights = q.rights; target = q.target; half = q.half; full = q.full }

    is : like p q ≡ q
    is = ap (λ (b : Board). made b p.side) same.board ∙ ap (λ (c : Colour). made q.board c) same.side

pub same_moves_legal : SameMovesLegal
same_moves_legal p q same m = same_tests _ _ (legal_in p q m same) (legal_in q p m (turned p q same))
