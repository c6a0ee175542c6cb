use Rattle.pgn_game.proofs.Words.{None, ap, sym, ◌∙◌, rules}
use Rattle.pgn_game.specs.public.ItemsCalls.{Current}
use Rattle.pgn_game.proofs.giving.CurrentFitsInMemory.{items_fit_current}
use Rattle.pgn_game.proofs.giving.ItemsAhead.{lowers_from}
use Rattle.pgn_game.proofs.giving.SourceToItems.{forgets, gives_next, gives_none, gives_nothing, gives_some}
use Rattle.pgn_game.specs.steps.ItemsSteps.{is_at_end}
use Rattle.pgn_game.proofs.items.Items.next.Goals as goal

pub give_next-requires : goal.give_next-requires
give_next-requires g c = search items_fit_current

pub forget_last-requires : goal.forget_last-requires
forget_last-requires g c =
    let none = sym c.give_next.ensures.item ∙ c.in_default.is in
    (search items_fit_current, ap (λ (x : Current). x.pending) (c.give_next.ensures.current ∙ gives_nothing _ none) ∙ none)

pub returns-in-Some-clause-reads : goal.returns-in-Some-clause-reads
returns-in-Some-clause-reads g c =
    let is = sym c.give_next.ensures.item ∙ c.in-Some.is in
    rw (c.give_next.ensures.current ∙ gives_some _ c.in-Some.item is)
    (λ p u given have. gives_next _ c.in-Some.item is p u given _ (rw (← c.self.view_is) at have))

pub returns-in-Some-clause-lowers : goal.returns-in-Some-clause-lowers
returns-in-Some-clause-lowers g c = search (rules, gives_some)

pub returns-in-Finished-clause-reads : goal.returns-in-Finished-clause-reads
returns-in-Finished-clause-reads g c =
    let none = sym c.give_next.ensures.item ∙ c.in_default.is in
    let current_is = c.forget_last.ensures ∙ ap (λ (x : Current). record x { last = None }) (c.give_next.ensures.current ∙ gives_nothing _ none) in
    rw current_is (λ p u given have. gives_none _ none (ap is_at_end c.in-Finished.is) p u given _ (rw (← c.self.view_is) at have))

pub returns-in-SourceEnded-clause-reads : goal.returns-in-SourceEnded-clause-reads
returns-in-SourceEnded-clause-reads g c =
    let none = sym c.give_next.ensures.item ∙ c.in_default.is in
    let current_is = c.forget_last.ensures ∙ ap (λ (x : Current). record x { last = None }) (c.give_next.ensures.current ∙ gives_nothing _ none) in
    λ p u given have.
    (rw current_is at c.next_at_end.ensures.gives) _ _ _ p u given (forgets _ none p u given _ (rw (← c.self.view_is) at have))

pub returns-in-SourceEnded-clause-lowers : goal.returns-in-SourceEnded-clause-lowers
returns-in-SourceEnded-clause-lowers g c = search (rules, gives_nothing, lowers_from)

pub returns-in-Reading-clause-reads : goal.returns-in-Reading-clause-reads
returns-in-Reading-clause-reads g c =
    let none = sym c.give_next.ensures.item ∙ c.in_default.is in
    let current_is = c.forget_last.ensures ∙ ap (λ (x : Current). record x { last = None }) (c.give_next.ensures.current ∙ gives_nothing _ none) in
    λ p u given have.
    (rw current_is at c.read_item.ensures.reads) p u given (forgets _ none p u given _ (rw (← c.self.view_is) at have))

pub returns-in-Reading-clause-lowers : goal.returns-in-Reading-clause-lowers
returns-in-Reading-clause-lowers g c = search (rules, gives_nothing, lowers_from)
