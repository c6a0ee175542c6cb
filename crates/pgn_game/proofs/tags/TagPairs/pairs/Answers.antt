use Rattle.pgn_game.proofs.Words.{rules}
use Rattle.pgn_game.proofs.pairs.StoredPlaces.{stored-held, stored-in-order}
use Rattle.pgn_game.proofs.tags.TagPairs.pairs.Goals as goal

pub new-requires : goal.new-requires
new-requires g c = rw (c.as_slice.ensures.value, c.as_slice-2.ensures.value) (stored-in-order c.self.invariant)

pub returns : goal.returns
returns g c = search (rules, stored-held)
