use Rattle.chess_rules.proofs.trying.LegalIsTried.{candidates_complete}
use Rattle.chess_rules.proofs.laws.candidates_are_complete.Goals as goal

pub returns : goal.returns
returns c = candidates_complete
