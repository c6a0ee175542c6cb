use Rattle.pgn_game.proofs.Words.{◌≡◌, ◌-◌, ◌<◌, length, ◌∙◌, true, false, ap, sym, arith, suc, bytes_eq, index_of, pair_at, [], get_or_read, rules}
use Rattle.pgn_game.proofs.pairs.SortedPairs.{new-first, value-behind}
use Rattle.pgn_game.proofs.pairs.ValuesByName.{bytes_eq-true}
use Rattle.pgn_game.proofs.ordered.find.Goals as goal

pub returns-then-behind-eq0 : goal.returns-then-behind-eq0
returns-then-behind-eq0 c = search (rules, new-first)

pub returns-then-eq : goal.returns-then-eq
returns-then-eq c =
    let pairs = c.args.pairs.now in
    let name = c.args.name.now in
    let p = c.at.result.now in
    let index = c.index_of-behind.ensures in
    let suc_at : index_of name pairs ≡ suc (c.index_of-behind.result - 1) = omega (arith, index.index, c.if-behind-eq0.false) in
    let within : c.index_of-behind.result - 1 < length pairs = omega (arith, index.within, c.if-behind-eq0.false) in
    let same : bytes_eq p.name name ≡ true = ap (λ n. bytes_eq n name) (sym c.name.ensures.name) ∙ sym c.eq.ensures ∙ c.if-eq.true in
    let there : p ≡ pair_at pairs (c.index_of-behind.result - 1) = get_or_read pairs _ p within c.at.ensures (record { name = []; value = [] }) in
    let value = value-behind name pairs _ index.order suc_at c.at.ensures in search (rules, bytes_eq-true)

pub returns : goal.returns
returns c =
    let name = c.args.name.now in
    let p = c.at.result.now in
    let index = c.index_of-behind.ensures in
    let suc_at : index_of name c.args.pairs.now ≡ suc (c.index_of-behind.result - 1) = omega (arith, index.index, c.if-behind-eq0.false) in
    let other : bytes_eq p.name name ≡ false = ap (λ n. bytes_eq n name) (sym c.name.ensures.name) ∙ sym c.eq.ensures ∙ c.if-eq.false in
    record { new = rw (value-behind name c.args.pairs.now _ index.order suc_at c.at.ensures, other); place = index.index }
