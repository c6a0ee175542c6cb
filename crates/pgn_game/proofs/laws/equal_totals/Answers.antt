use Rattle.pgn_game.proofs.EqualTotals.{equal_totals}
use Rattle.pgn_game.proofs.laws.equal_totals.Goals as goal

pub returns : goal.returns
returns c = equal_totals c.tokens_rise.ensures
