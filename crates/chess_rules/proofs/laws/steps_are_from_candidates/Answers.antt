use Rattle.chess_rules.proofs.trying.LegalIsTried.{steps_from_candidates}
use Rattle.chess_rules.proofs.laws.steps_are_from_candidates.Goals as goal

pub returns : goal.returns
returns c = steps_from_candidates
