use Rattle.pgn_game.proofs.Words.{◌≡◌, get_or, ap, sym, ◌∙◌, Some}
use Rattle.pgn_game.proofs.pairs.StoredPlaces.{begun-name}
use Rattle.pgn_game.proofs.tags.TagPairs.pending_name.Goals as goal

pub returns : goal.returns
returns g c =
    let last = c.index-as_slice-len.result in
    let at : last ≡ get_or c.self.inside.stored.items c.len.result last = rw c.as_slice.ensures.value at c.index-as_slice-len.is in
    begun-name c.self.invariant c.self.view_is c.requires c.len.ensures.value at ∙ ap Some (sym c.name.ensures.name)
