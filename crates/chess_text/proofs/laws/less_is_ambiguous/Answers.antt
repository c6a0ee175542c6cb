use Rattle.chess_text.proofs.names.TextsToMoves.{less}
use Rattle.chess_text.proofs.laws.less_is_ambiguous.Goals as goal

pub returns : goal.returns
returns c = less
