use Rattle.chess_rules.proofs.Words.{arith, common_steps}
use Rattle.chess_rules.proofs.sets.SetsToSquares.{places_and, places_same}
use Rattle.chess_rules.proofs.sets.WordsToCells.{piece_is}
use Rattle.chess_rules.proofs.board.Board.pieces.Goals as goal

pub returns : goal.returns
returns c = grind (arith, common_steps, places_same, places_and, piece_is)
