use Rattle.chess_rules.proofs.Words.{Move, Parts, Board, after, board_after, is_on_board, ◌≡◌, Bool, true, false, refl, arith, Option, None, Some, is_some, option_map, if◌then◌else◌, false≢true, nat_tests, common_steps}
use Rattle.chess_rules.proofs.step.is_step.Goals as goal

-- on the board, a step is what makes a board
board_makes_step : (p : Parts) (m : Move) (on : Bool) (o : Option Board) → on ≡ true
    → is_some o ≡ is_some (if on then option_map (after p m) o else None)
board_makes_step p m true None h = refl
board_makes_step p m true (Some b) h = refl
board_makes_step p m false o h = absurd (false≢true h)

pub returns : goal.returns
returns c = grind (arith, common_steps, is_on_board, nat_tests, board_makes_step, board_after)
