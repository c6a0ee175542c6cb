use Rattle.pgn_game.proofs.Words.{ap, first_position, movetext_from}
use Rattle.pgn_game.proofs.levels.Levels.new.Goals as goal

pub returns : goal.returns
unfolding first_position
returns g c = rw (c.push.ensures.items, c.new-levels.ensures, c.at.ensures) (ap movetext_from c.initial.ensures)
