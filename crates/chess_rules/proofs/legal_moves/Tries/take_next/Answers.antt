use Rattle.chess_rules.proofs.Words.{sym, ◌∙◌, arith}
use Rattle.chess_rules.proofs.listing.TriesInOrder.{pending_first, target_first, origin_first, none_left}
use Rattle.chess_rules.proofs.legal_moves.Tries.take_next.Goals as goal

pub returns-in-Some : goal.returns-in-Some
returns-in-Some c = grind (arith, pending_first)

pub returns-in-Some-take_lowest : goal.returns-in-Some-take_lowest
returns-in-Some-take_lowest c =
    sym c.loop-target.invariant.1
    ∙ target_first c.args.position.now c.loop-target.self c.in-Some-take_lowest.target c.take_lowest.new.self c.one_move-mv.result
    c.later-self-in-Some-take_lowest.result c.loop-target.invariant.0 c.in-Some-take_lowest.ensures c.one_move-mv.ensures
    c.later-self-in-Some-take_lowest.ensures

pub returns-in_default-take_lowest-2 : goal.returns-in_default-take_lowest-2
returns-in_default-take_lowest-2 c =
    let none = none_left c.args.position.now c.loop-target.self c.loop-target.invariant.0 c.in_default-take_lowest.ensures.none
    c.in_default-take_lowest-2.ensures.none in
    (sym c.loop-target.invariant.1 ∙ none, none)

pub loop-target-preserved : goal.loop-target-preserved
loop-target-preserved c = (
  c.loop-target.invariant.0,
  origin_first c.args.position.now c.loop-target.self c.in-Some-take_lowest-2.origin c.targets_of-self.result
      c.take_lowest-in-loop-target.new.self c.loop-target.invariant.0 c.in_default-take_lowest.ensures.none c.in-Some-take_lowest-2.ensures
      c.targets_of-self.ensures
      ∙ c.loop-target.invariant.1,
)
