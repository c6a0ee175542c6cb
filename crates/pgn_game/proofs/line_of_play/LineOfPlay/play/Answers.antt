use Rattle.pgn_game.proofs.Words.{rules}
use Rattle.pgn_game.proofs.PlyAhead.{move_next}
use Rattle.pgn_game.proofs.line_of_play.LineOfPlay.play.Goals as goal

pub returns-in-Ok-clause-next : goal.returns-in-Ok-clause-next
returns-in-Ok-clause-next c = search (rules, move_next)
