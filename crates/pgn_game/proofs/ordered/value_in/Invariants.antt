use Rattle.pgn_game.proofs.Words.{◌≡◌, drop, value_of}
use Rattle.pgn_game.proofs.ordered.value_in.Given as goal

abbrev pub invariant-loop-index : goal.invariant-loop-index
invariant-loop-index l = value_of l.pairs l.name ≡ value_of (drop l.index l.pairs) l.name
