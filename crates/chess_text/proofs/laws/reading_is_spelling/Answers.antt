use Rattle.chess_text.proofs.positions.FenLaws.{reading_is_spelling}
use Rattle.chess_text.proofs.laws.reading_is_spelling.Goals as goal

pub returns : goal.returns
returns c = reading_is_spelling
