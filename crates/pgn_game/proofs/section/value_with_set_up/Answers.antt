use Rattle.pgn_game.proofs.Words.{rules}
use Rattle.pgn_game.proofs.pairs.ExportedValues.{set_up_one, no_fen, no_set_up}
use Rattle.pgn_game.proofs.section.value_with_set_up.Goals as goal
use Rattle.pgn_game.proofs.section.value_with_set_up.Goals.{else-eq-via-then-eq+else-has_fen, else-eq-via-else-eq}

pub returns-then-has_fen : goal.returns-then-has_fen
returns-then-has_fen c = search (rules, set_up_one)

pub returns : goal.returns
returns c = search (rules, no_fen, no_set_up, else-eq-via-then-eq+else-has_fen, else-eq-via-else-eq)
