use Rattle.pgn_game.proofs.pairs.StoredPlaces.{in_order-take, in_order-drop}
use Rattle.pgn_game.proofs.ordered.OrderedPairs.split_at.Goals as goal

pub new-requires : goal.new-requires
new-requires c = rw c.split_at.ensures.front (in_order-take _ _ c.args.index c.self.invariant)

pub new-requires-2 : goal.new-requires-2
new-requires-2 c = rw c.split_at.ensures.back (in_order-drop _ _ c.args.index c.self.invariant)
