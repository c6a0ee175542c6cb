use Rattle.chess_rules.proofs.Words.{◌≡◌, ◌+◌, ◌-◌, ◌*◌, ◌<◌, ◌^◌, suc, sym, ◌∙◌, ap, arith, take, drop, length-take, common_steps}
unfoldable use Rattle.chess_rules.specs.Words.{lanes}
use Rattle.chess_rules.proofs.sets.RanksToWords.{lanes_nil, next_lanes, lanes_fit}
use Rattle.chess_rules.proofs.board.lanes_of_rank.Goals as goal
use Rattle.chess_rules.proofs.board.lanes_of_rank.Goals.{After-lanes_of}

next : (c : After-lanes_of) → c.lanes_of.result + 2 * c.loop-right.lanes
    ≡ lanes (take (suc c.loop-right.right) (drop (8 * c.args.rank + 7 - c.loop-right.right) c.args.contents.now))
next c =
    let i = 8 * c.args.rank + 7 - c.loop-right.right in
    let behind : 8 * c.args.rank + 8 - c.loop-right.right ≡ suc i = omega arith in
    ap (λ k. k + 2 * c.loop-right.lanes) c.lanes_of.ensures
    ∙ next_lanes c.args.contents.now i c.loop-right.right c.loop-right.lanes (omega arith)
    (c.loop-right.invariant ∙ ap (λ k. lanes (take c.loop-right.right (drop k c.args.contents.now))) behind)

fits : (c : After-lanes_of) → c.lanes_of.result + 2 * c.loop-right.lanes < 2 ^ 32
fits c =
    let b = drop (8 * c.args.rank + 7 - c.loop-right.right) c.args.contents.now in
    omega (arith, next c, lanes_fit (take (suc c.loop-right.right) b) (omega (arith, length-take (suc c.loop-right.right) b)))

pub loop-right-init : goal.loop-right-init
loop-right-init c = sym lanes_nil

pub overflow_mul-lanes : goal.overflow_mul-lanes
overflow_mul-lanes c = omega (arith, fits c)

pub overflow_add-lanes : goal.overflow_add-lanes
overflow_add-lanes c = omega (arith, fits c)

pub loop-right-preserved : goal.loop-right-preserved
loop-right-preserved c = grind (arith, common_steps, suc, next)
