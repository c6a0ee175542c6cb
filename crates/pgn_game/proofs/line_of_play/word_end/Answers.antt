use Rattle.pgn_game.proofs.Words.{rules}
use Rattle.pgn_game.proofs.WordByBytes.{word_grown}
use Rattle.pgn_game.proofs.line_of_play.word_end.Goals as goal

pub loop-end-preserved : goal.loop-end-preserved
loop-end-preserved c = search (rules, word_grown)
