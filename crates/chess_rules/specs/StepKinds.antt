-- **Bookkeeping**: which kind of step a move is, if it is one. No rule of play rests on it.
use Rattle.std.specs.Prelude.{◌≡◌, ℕ, ◌-◌, IsTrue, ◌&&◌, not, nat_lt, ◌==◌, if◌then◌else◌}
use Rattle.chess_rules.specs.declared.piece.Colour.{Colour}
use Rattle.chess_rules.specs.declared.piece.Colour.TheVariants.{White, Black}
use Rattle.chess_rules.specs.declared.piece.Kind.TheVariants.{King, Pawn}
use Rattle.chess_rules.specs.declared.position.Move.{Move}
use Rattle.chess_rules.specs.declared.position.Parts.{Parts}
use Rattle.chess_rules.specs.declared.step.StepKind.{StepKind}
use Rattle.chess_rules.specs.declared.step.StepKind.TheVariants.{Plain, EnPassant, ShortCastling, LongCastling}
use Rattle.chess_rules.specs.Square.{gap}
use Rattle.chess_rules.specs.Board.{is_empty}
use Rattle.chess_rules.specs.Step.{own, is_on_board, is_target}

-- Castling if a king goes further than to the next file: short if to the g file, else long. En
-- passant if a pawn goes to the en passant target, which is empty, and leaves its file. Else plain.
unfoldable pub step_kind : Parts → Move → StepKind
step_kind p m =
    if nat_lt 1 (gap m.from.file m.to.file) && own p King m.from then (if m.to.file == 6 then ShortCastling else LongCastling)
    else if (is_target p.target m.to && own p Pawn m.from) && (not (m.from.file == m.to.file) && is_empty p.board m.to) then EnPassant
    else Plain

-- the squares of the move are on the board, and k is its kind
pub record IsKindOfStep (k : StepKind) (p : Parts) (m : Move) : Type 0 where
  pub on_board : IsTrue (is_on_board m)
  pub kind : k ≡ step_kind p m

-- how far a rank is from the colour's home rank, or which rank is so far from it
abbrev pub rank_from : Colour → ℕ → ℕ
rank_from White rank = rank
rank_from Black rank = 7 - rank
