use Rattle.pgn_game.proofs.Words.{[], codes, has_pair, arith, rules, ◌≡◌, subst, length, InOrder}
use Rattle.pgn_game.proofs.pairs.StoredPlaces.{stored-held, held-count, HasPlace, place-of-new, place-of-old, begun-seen, begun-stored}
use Rattle.pgn_game.proofs.tags.TagPairs.begin.Goals as goal
use Rattle.pgn_game.proofs.tags.TagPairs.begin.Goals.{then-count-len, else-count-len}

pub push-requires : goal.push-requires
push-requires g c = search (rules, held-count)

pub returns : goal.returns
returns g c =
    let same = stored-held c.self.inside.stored.items c.self.inside.order.items _ c.self.view_is c.requires.whole in
    let count = held-count c.self.inside.stored.items c.self.inside.order.items _ c.self.view_is c.requires.whole in
    let has : HasPlace g.row.T c.if-count-len.self-inside.stored.items c.if-count-len.self-inside.order.items c.args.self.now.held =
    elim c.if-count-len.branch [
      | then-count-len w ↦
          rw w.self-inside-is (place-of-new c.self.inside.stored.items w.push.new.self.items w.default.result w.push.ensures.items same
          c.self.invariant.first (omega arith) (omega (arith, count, c.requires.room)))
      | else-count-len w ↦
          rw w.self-inside-is (place-of-old same c.self.invariant.first (omega (arith, c.self.invariant.within)) c.self.invariant.room)
    ] in
    let at : c.len-count.result ≡ length c.if-count-len.self-inside.order.items = search (rules, then-count-len, else-count-len) in
    rw (c.as_mut_slice-stored.ensures.value, c.set_name.ensures) (begun-seen (record { name = c.args.name.now; value = [] }) has at)

pub invariant_of-self : goal.invariant_of-self
invariant_of-self g c =
    let same = stored-held c.self.inside.stored.items c.self.inside.order.items _ c.self.view_is c.requires.whole in
    let count = held-count c.self.inside.stored.items c.self.inside.order.items _ c.self.view_is c.requires.whole in
    let has : HasPlace g.row.T c.if-count-len.self-inside.stored.items c.if-count-len.self-inside.order.items c.args.self.now.held =
    elim c.if-count-len.branch [
      | then-count-len w ↦
          rw w.self-inside-is (place-of-new c.self.inside.stored.items w.push.new.self.items w.default.result w.push.ensures.items same
          c.self.invariant.first (omega arith) (omega (arith, count, c.requires.room)))
      | else-count-len w ↦
          rw w.self-inside-is (place-of-old same c.self.invariant.first (omega (arith, c.self.invariant.within)) c.self.invariant.room)
    ] in
    let at : c.len-count.result ≡ length c.if-count-len.self-inside.order.items =
    elim c.if-count-len.branch [
      | then-count-len w ↦ rw w.self-inside-is c.len-count.ensures.value
      | else-count-len w ↦ rw w.self-inside-is c.len-count.ensures.value
    ] in
    let fen : c.if-count-len.self-inside.has_fen ≡ has_pair c.args.self.now.held (codes "FEN") = search (rules, then-count-len, else-count-len) in
    rw (c.as_mut_slice-stored.ensures.value, c.set_name.ensures)
    (begun-stored (record { name = c.args.name.now; value = [] }) c.args.place has at (subst InOrder same c.self.invariant.in_order)
    c.requires.new c.requires.place fen)
