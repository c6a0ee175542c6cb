use Rattle.pgn_game.proofs.ReaderFitsInMemory.{fits_game}
use Rattle.pgn_game.proofs.converter.Converter.announce_marker.Goals as goal

pub announce_marker-requires : goal.announce_marker-requires
announce_marker-requires g c = search fits_game

pub invariant_of-self : goal.invariant_of-self
invariant_of-self g c =
    let i = c.self.invariant in
    rw c.announce_marker.ensures (record { count = i.count; few = i.few; few_plies = i.few_plies; fewer_plies = i.fewer_plies; between = i.between; no_fault = i.no_fault })
