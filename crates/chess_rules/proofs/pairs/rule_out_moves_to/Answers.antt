use Rattle.chess_rules.proofs.Words.{length, members, sum_by, ap, arith, common_steps}
use Rattle.chess_rules.proofs.trying.PairsFromOrigin.{count_from, counted_by_origins, origin_counts, origin_mine, origins_begin, origins_go_on, targets_counted}
use Rattle.chess_rules.proofs.trying.SetsToPairs.{colour_places}
use Rattle.chess_rules.proofs.pairs.rule_out_moves_to.Goals as goal

pub loop-origin-init : goal.loop-origin-init
loop-origin-init c =
    origins_begin (colour_places c.args.position.now _ _ _ c.side.ensures c.board.ensures c.of_colour-left.ensures)

pub untried_from-requires : goal.untried_from-requires
untried_from-requires c = origin_mine c.in-Some.ensures c.loop-origin.invariant

pub add-requires : goal.add-requires
add-requires c = grind (arith, common_steps, origin_counts, targets_counted, counted_by_origins)

pub loop-origin-smaller : goal.loop-origin-smaller
loop-origin-smaller c = omega (arith, ap length c.in-Some.ensures.next)

pub loop-origin-preserved : goal.loop-origin-preserved
loop-origin-preserved c =
    let many = targets_counted c.args.position.now c.args.targets c.in-Some.origin c.bitand.ensures c.untried_from.ensures in
    origins_go_on c.in-Some.ensures c.loop-origin.invariant (omega (arith, many, c.count.ensures, c.add.ensures))

pub returns : goal.returns
returns c = grind (arith, common_steps, sum_by, count_from, members, counted_by_origins)
