use Rattle.pgn_game.proofs.Words.{Consumes, IfSome, List, arith, subst, sym, ℕ, ◌<◌, ◌∙◌, rules}
use Rattle.pgn_layout.specs.Device.{device}
use Rattle.pgn_game.proofs.SearchOfSource.{search_finds, search_goes_on}
use Rattle.pgn_game.proofs.skipping.section_behind.Goals as goal

pub returns-then-is_some-clause-finds : goal.returns-then-is_some-clause-finds
returns-then-is_some-clause-finds g c =
    let here = c.loop-search.invariant in
    let so = here.so in
    let fills = rw c.in-Ok-true.field-0-test at c.in-Ok-true.ensures.fills in
    let within = so.within in
    let read = search_goes_on _ _ _ _ _ _ (g.R.Source.left c.loop-search.source) (g.R.Source.left c.fill.new.source) c.unused-piece.result.now so
    (subst (λ (piece : List ℕ). Consumes (g.R.Source.left c.loop-search.source) (g.R.Source.left c.fill.new.source) piece) (sym c.unused-piece.ensures) fills.1)
    (omega (arith, c.if-place-piece.false, within)) c.feed-found.ensures.reads c.feed-found.ensures.at c.feed-found.ensures.begin in
    let begins = so.begins in
    rw c.place_of-then-is_some.ensures (search_finds _ _ _ _ _ (g.R.Source.left c.fill.new.source)
    (device g.R.Source.left g.R.Source.failures c.args.source.now c.fill.new.source) c.feed-found.result read (c.in-Ok-true.ensures.counted ∙ here.failures)
    (sym c.is_some.ensures ∙ c.if-is_some.true) c.feed-found.ensures.stays
    (subst (λ (n : ℕ). IfSome c.feed-found.result (λ p. n < p)) begins c.feed-found.ensures.above)
    c.feed-found.ensures.within)

pub loop-search-preserved : goal.loop-search-preserved
loop-search-preserved g c = search (rules, search_goes_on)
