use Rattle.pgn_game.proofs.Words.{◌≡◌, Option, List, ℕ, get_or, length, escaped, IsSome, IsSomeAnd, None, Some, refl, rules}
use Rattle.pgn_game.proofs.pairs.StoredPlaces.{room-for-value, place-within, completed-seen, completed-stored}
use Rattle.pgn_game.proofs.tags.TagPairs.complete.Goals as goal

some_from : (o : Option (List ℕ)) (P : List ℕ → Type 0) → IsSomeAnd o P → IsSome o
some_from (Some name) P h = refl
some_from None P h = absurd h

pub set_value-requires : goal.set_value-requires
set_value-requires g c =
    let p = c.index-stored-count.result in
    let at : p ≡ get_or c.self.inside.stored.items c.len-count.result p = rw c.as_mut_slice-stored.ensures.value at c.index-stored-count.is in
    rw (← c.index-stored-count.is)
    (room-for-value c.self.invariant c.self.view_is (some_from _ _ c.requires.fits) c.len-count.ensures.value at (length (escaped c.args.value.now)) c.requires.fits)

pub insert-requires : goal.insert-requires
insert-requires g c =
    let within = place-within c.self.invariant c.self.view_is (some_from _ _ c.requires.fits) in
    (search rules, (within.0, within.1))

pub returns : goal.returns
returns g c =
    let p = c.index-stored-count.result in
    let at : p ≡ get_or c.self.inside.stored.items c.len-count.result p = rw c.as_mut_slice-stored.ensures.value at c.index-stored-count.is in
    rw c.as_mut_slice-stored.ensures.value
    (completed-seen c.self.invariant c.self.view_is (some_from _ _ c.requires.fits) c.len-count.ensures.value at c.set_value.new.self
    c.args.value.now c.insert.new.self.items (rw (← c.index-stored-count.is) at c.set_value.ensures) c.insert.ensures.items)

pub invariant_of-self : goal.invariant_of-self
invariant_of-self g c =
    let p = c.index-stored-count.result in
    let at : p ≡ get_or c.self.inside.stored.items c.len-count.result p = rw c.as_mut_slice-stored.ensures.value at c.index-stored-count.is in
    rw c.as_mut_slice-stored.ensures.value
    (completed-stored c.self.invariant c.self.view_is (some_from _ _ c.requires.fits) c.len-count.ensures.value at c.set_value.new.self
    c.args.value.now c.insert.new.self.items c.args.is_fen (rw (← c.index-stored-count.is) at c.set_value.ensures) c.insert.ensures.items c.requires.fen)
