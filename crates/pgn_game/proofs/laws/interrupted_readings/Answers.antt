use Rattle.pgn_game.proofs.InterruptedReadings.{interrupted_readings}
use Rattle.pgn_game.proofs.laws.interrupted_readings.Goals as goal

pub returns : goal.returns
returns c = interrupted_readings c.decided_is_prefix.ensures c.tokens_rise.ensures
