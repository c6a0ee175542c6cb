use Rattle.chess_text.proofs.positions.FenLaws.{once}
use Rattle.chess_text.proofs.laws.one_position_a_text.Goals as goal

pub returns : goal.returns
returns c = once
