-- No move is a step in two ways.
use Rattle.chess_rules.proofs.Words.{Pawn, Move, Parts, gap, at, is_empty, other, has_piece, attacks, own, is_piece_step, is_pawn_way, is_pawn_step, promotion_fits, is_target, captured_pawn, is_en_passant, castles_short, castles_long, short_wing, long_wing, Wing, CasesApart, ◌≡◌, ◌≤◌, Bool, true, ◌&&◌, arith, [], ◌∷◌, count_by, or_cases, short_right, long_right}
use Rattle.chess_rules.proofs.moves.WaysToStep.{Castles, castles_means}
use Rattle.chess_rules.proofs.sets.AllSquares.{first_true, second_true, equal_from}

module _ (p : Parts) (m : Move) where
  pub no_pawn_moves : is_piece_step p m ≡ true → own p Pawn m.from ≡ true → ⊥
  no_pawn_moves h pawn = grind arith

  pub pawn_of_step : is_pawn_step p m ≡ true → own p Pawn m.from ≡ true
  pawn_of_step h = first_true (own p Pawn m.from) (is_pawn_way p m && promotion_fits p m) h

  pub en_passant_stands : is_en_passant p m ≡ true
      → ((own p Pawn m.from && promotion_fits p m) && (is_target p.target m.to && is_empty p.board m.to)) ≡ true
  en_passant_stands h = first_true _ (attacks p.board m.from m.to && has_piece (other p.side) Pawn (at p.board (captured_pawn m))) h

  pub pawn_of_en_passant : is_en_passant p m ≡ true → own p Pawn m.from ≡ true
  pawn_of_en_passant h =
      first_true (own p Pawn m.from) _ (first_true _ (is_target p.target m.to && is_empty p.board m.to) (en_passant_stands h))

  king_is_no_pawn : (wing : Wing) → Castles p m wing → own p Pawn m.from ≡ true → ⊥
  king_is_no_pawn wing h pawn = grind arith

  -- a pawn that goes ahead keeps its file, and one that captures finds a piece
  pub pawn_steps_apart : is_pawn_step p m ≡ true → is_en_passant p m ≡ true → ⊥
  pawn_steps_apart h g = grind (arith, or_cases, first_true, second_true, equal_from, en_passant_stands)

  -- a king steps to a square beside it
  king_steps_apart : (wing : Wing) → 2 ≤ gap 4 wing.end → is_piece_step p m ≡ true → Castles p m wing → ⊥
  king_steps_apart wing far h g = grind arith

  wings_apart : Castles p m short_wing → Castles p m long_wing → ⊥
  wings_apart h g = grind arith

one_at_most : (a b c d e : Bool) → (a ≡ true → b ≡ true → ⊥) → (a ≡ true → c ≡ true → ⊥)
    → (a ≡ true → d ≡ true → ⊥) → (a ≡ true → e ≡ true → ⊥)
    → (b ≡ true → c ≡ true → ⊥) → (b ≡ true → d ≡ true → ⊥) → (b ≡ true → e ≡ true → ⊥)
    → (c ≡ true → d ≡ true → ⊥) → (c ≡ true → e ≡ true → ⊥) → (d ≡ true → e ≡ true → ⊥)
    → count_by (λ holds. holds) (a ∷ b ∷ c ∷ d ∷ e ∷ []) ≤ 1
one_at_most a b c d e ab ac ad ae bc bd be cd ce de = grind arith

pub cases_apart : CasesApart
cases_apart p m =
    one_at_most (is_piece_step p m) (is_pawn_step p m) (is_en_passant p m) (castles_short p m) (castles_long p m)
    (λ a b. no_pawn_moves p m a (pawn_of_step p m b))
    (λ a b. no_pawn_moves p m a (pawn_of_en_passant p m b))
    (λ a b. king_steps_apart p m short_wing (omega arith) a (short b))
    (λ a b. king_steps_apart p m long_wing (omega arith) a (long b))
    (pawn_steps_apart p m)
    (λ a b. king_is_no_pawn p m short_wing (short b) (pawn_of_step p m a))
    (λ a b. king_is_no_pawn p m long_wing (long b) (pawn_of_step p m a))
    (λ a b. king_is_no_pawn p m short_wing (short b) (pawn_of_en_passant p m a))
    (λ a b. king_is_no_pawn p m long_wing (long b) (pawn_of_en_passant p m a))
    (λ a b. wings_apart p m (short a) (long b))
  where
    short : castles_short p m ≡ true → Castles p m short_wing
    short h = castles_means p m (short_right p.side p.rights) short_wing h

    long : castles_long p m ≡ true → Castles p m long_wing
    long h = castles_means p m (long_right p.side p.rights) long_wing h
