use Rattle.chess_rules.proofs.Words.{Colour, King, Square, on_board, Board, at, has_piece, arith, true, ◌≡◌, common_steps}
use Rattle.chess_rules.proofs.positions.OneKing.{StandsAt, king_only_there}
use Rattle.chess_rules.proofs.positions.RulesOfPosition.{sound_from_position}
use Rattle.chess_rules.proofs.laws.one_king_a_side.Goals as goal

stands : (b : Board) (c : Colour) (s : Square) → on_board s ≡ true → has_piece c King (at b s) ≡ true → StandsAt c b s
stands b c s h king = grind arith

pub returns : goal.returns
returns c0 = grind (arith, common_steps, sound_from_position, king_only_there, stands)
