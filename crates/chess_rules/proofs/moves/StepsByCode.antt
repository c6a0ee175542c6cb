-- A code says what piece it is, and what that reaches on an empty board.
use Rattle.chess_rules.proofs.Words.{Colour, Kind, King, Pawn, Piece, Move, Parts, Square, Board, at, has_colour, cell_attacks, has_piece, is_clear, attacks, own, is_piece_step, code_of, kind_code, code_reaches, reaches, reaches_from, Option, None, Some, is_none, ◌≡◌, ◌≢◌, ℕ, Bool, true, false, not, ◌&&◌, refl, sym, ◌∙◌, ap, arith, common_steps}
use Rattle.chess_rules.proofs.lines.AttackToReach.{attack_is, cell_attack_is, colours_same}

pub pawn_by_code : (c : Colour) (cell : Option Piece) → has_colour c cell ≡ true → code_of cell ≡ 4 → has_piece c Pawn cell ≡ true
pawn_by_code c cell own is = grind arith

pub no_pawn_by_code : (c : Colour) (cell : Option Piece) → code_of cell ≢ 4 → has_piece c Pawn cell ≡ false
no_pawn_by_code c cell differs = grind arith

pub no_king_by_code : (c : Colour) (cell : Option Piece) → code_of cell ≢ 6 → has_piece c King cell ≡ false
no_king_by_code c cell differs = grind arith

-- but for a pawn, the code says what the piece reaches

kind_reaches : (k : Kind) (c : Colour) (s t : Square) → kind_code k ≢ 4 → code_reaches (kind_code k) s t ≡ reaches k c s t
kind_reaches k c s t h = grind (arith, common_steps)

pub code_reaches_from : (cell : Option Piece) (s t : Square) → code_of cell ≢ 4 → code_reaches (code_of cell) s t ≡ reaches_from cell s t
code_reaches_from None s t h = refl
code_reaches_from (Some x) s t h = kind_reaches x.kind x.colour s t h

-- what the piece attacks: a pawn, and any other

pub pawn_attacks : (c : Colour) (cell : Option Piece) (b : Board) (s t : Square) → has_colour c cell ≡ true → code_of cell ≡ 4
    → cell_attacks cell b s t ≡ reaches Pawn c s t
pawn_attacks c cell b s t mine is = grind (arith, common_steps, cell_attack_is, colours_same, attack_is)

pub attacks_by_code : (cell : Option Piece) (b : Board) (s t : Square) → code_of cell ≢ 4
    → cell_attacks cell b s t ≡ (code_reaches (code_of cell) s t && is_clear b s t)
attacks_by_code cell b s t differs = cell_attack_is cell b s t ∙ ap (λ x. x && is_clear b s t) (sym (code_reaches_from cell s t differs))

-- the rules of a step of such a piece
pub step_by_code : (p : Parts) (m : Move) (code : ℕ) → has_colour p.side (at p.board m.from) ≡ true → code ≡ code_of (at p.board m.from) → code ≢ 4
    → is_piece_step p m ≡ ((is_none m.promotion && not (has_colour p.side (at p.board m.to))) && (code_reaches code m.from m.to && is_clear p.board m.from m.to))
step_by_code p m code mine is no_pawn =
    in_turn (has_colour p.side (at p.board m.from)) (own p Pawn m.from) (is_none m.promotion) (attacks p.board m.from m.to)
    (has_colour p.side (at p.board m.to)) (code_reaches code m.from m.to) (is_clear p.board m.from m.to) mine
    (no_pawn_by_code p.side (at p.board m.from) differs)
    (cell_attack_is (at p.board m.from) p.board m.from m.to
    ∙ ap (λ x. x && is_clear p.board m.from m.to) (sym (ap (λ k. code_reaches k m.from m.to) is ∙ code_reaches_from (at p.board m.from) m.from m.to differs)))
  where
    differs : code_of (at p.board m.from) ≢ 4
    differs e = no_pawn (is ∙ e)

    in_turn : (mine pawn plain hits taken reached clear : Bool) → mine ≡ true → pawn ≡ false → hits ≡ (reached && clear)
        → (((mine && not pawn) && plain) && (hits && not taken)) ≡ ((plain && not taken) && (reached && clear))
    in_turn mine pawn plain hits taken reached clear a b d = grind arith
