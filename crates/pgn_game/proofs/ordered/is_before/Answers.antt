use Rattle.pgn_game.proofs.pairs.SortedPairs.{is_comes_before}
use Rattle.pgn_game.proofs.ordered.is_before.Goals as goal

pub returns : goal.returns
returns c = is_comes_before c.args.name.now c.args.other.now c.lt.result c.lt.ensures
