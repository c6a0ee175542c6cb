use Rattle.pgn_game.proofs.Words.{◌∙◌, arith, rules}
use Rattle.pgn_game.proofs.giving.ItemsAhead.{ahead_going}
use Rattle.pgn_game.proofs.giving.SourceToItems.{rest_none}
use Rattle.pgn_game.proofs.items.Items.next_at_end.Goals as goal

pub loop-fault-init : goal.loop-fault-init
loop-fault-init g c =
    record { going = c.requires.going; all = c.requires.all; rest = rest_none _ c.requires.going c.requires.all; ahead = omega arith }

pub returns-in-Err-clause-gives : goal.returns-in-Err-clause-gives
returns-in-Err-clause-gives g c = λ left n m p u given have.
    (rw c.in-Err.is at c.take_at_end-is_end.ensures).after p u given left (c.loop-fault.invariant.rest p u given left have) n m

pub returns-in-Ok-Some-clause-gives : goal.returns-in-Ok-Some-clause-gives
returns-in-Ok-Some-clause-gives g c = λ left n m p u given have.
    (rw (c.in-Ok-Some.is, c.in-Ok-Some.field-0-is) at c.take_at_end-is_end.ensures).after p u given left (c.loop-fault.invariant.rest p u given left have)

pub returns-in-Ok-Some-clause-lowers : goal.returns-in-Ok-Some-clause-lowers
returns-in-Ok-Some-clause-lowers g c = search (rules, ahead_going)

pub returns-then-is_end-clause-gives : goal.returns-then-is_end-clause-gives
returns-then-is_end-clause-gives g c = λ left n m p u given have.
    (rw (c.in-Ok-None.is, c.in-Ok-None.field-0-is, c.if-is_end.true) at c.take_at_end-is_end.ensures).after p u given left
    (c.loop-fault.invariant.rest p u given left have)

pub loop-fault-preserved : goal.loop-fault-preserved
loop-fault-preserved g c =
    let takes = rw (c.in-Ok-None.is, c.in-Ok-None.field-0-is, c.if-is_end.false) at c.take_at_end-is_end.ensures in
    record {
      going = takes.goes.0;
      all = takes.read_all ∙ c.loop-fault.invariant.all;
      rest = λ p u given left have. takes.after p u given left (c.loop-fault.invariant.rest p u given left have);
      ahead = omega (arith, takes.goes.1, takes.count, c.loop-fault.invariant.ahead);
    }
