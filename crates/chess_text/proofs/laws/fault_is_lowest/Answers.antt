use Rattle.chess_text.proofs.positions.FenLaws.{lowest}
use Rattle.chess_text.proofs.laws.fault_is_lowest.Goals as goal

pub returns : goal.returns
returns c = lowest
