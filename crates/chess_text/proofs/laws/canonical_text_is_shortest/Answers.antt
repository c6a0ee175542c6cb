use Rattle.chess_text.proofs.positions.CanonicalText.{shortest}
use Rattle.chess_text.proofs.laws.canonical_text_is_shortest.Goals as goal

pub returns : goal.returns
returns c = shortest
