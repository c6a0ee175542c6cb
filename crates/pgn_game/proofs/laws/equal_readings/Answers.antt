use Rattle.pgn_game.proofs.EqualReadings.{equal_readings}
use Rattle.pgn_game.proofs.laws.equal_readings.Goals as goal

pub returns : goal.returns
returns c = equal_readings c.tokens_rise.ensures
