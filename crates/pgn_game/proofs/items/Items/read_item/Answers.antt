use Rattle.pgn_game.proofs.Words.{ℕ, ap, arith, one_more, refl, subst, sym, ◌∙◌, rules}
use Rattle.pgn_game.specs.public.ItemsCalls.{GivesFault, Items, tokens_ahead}
use Rattle.pgn_game.proofs.giving.ItemsAhead.{ahead_going, lowers_buffered, lowers_from}
use Rattle.pgn_game.proofs.giving.SourceToItems.{after_more, filled, read_failed, rest_begins, so_far_none, took_fault, took_item, took_none}
use Rattle.pgn_game.proofs.items.Items.read_item.Goals as goal

pub loop-fault-init : goal.loop-fault-init
loop-fault-init g c = search (rules, so_far_none)

pub returns-in-Err-clause-reads : goal.returns-in-Err-clause-reads
returns-in-Err-clause-reads g c = λ p u given have.
    let so = c.loop-fault.invariant in
    let fails = c.in-Err.ensures.more in
    subst (λ (n : ℕ). GivesFault p u given (record {
      before = g.R.Source.left c.args.source.now;
      after = g.R.Source.left c.fill_buffer.new.source;
      failures = g.R.Source.failures c.args.source.now;
      failures_after = n;
    }) c.fill_buffer.new.self c.in-Err.fault) (sym (c.in-Err.ensures.counted ∙ ap one_more so.failures))
    (read_failed p u given _ _ _ (so.reads p u given have) _ _ fails.0 so.going.no_fault c.in-Err.fault fails.1 fails.2 fails.3 fails.4 so.going so.short _)

pub returns-in-Ok-false-clause-reads : goal.returns-in-Ok-false-clause-reads
returns-in-Ok-false-clause-reads g c = λ p u given have.
    let so = c.loop-fault.invariant in
    let x = so.reads p u given have in
    let ends = rw c.in-Ok-false.field-0-test at c.in-Ok-false.ensures.more in
    after_more p u given _ _ _ x _ _ ends.2 _ _ c.next_at_end.result
    (c.next_at_end.ensures.gives _ _ _ p _ given (rest_begins p u given _ _ _ x _ _ c.symbols_stand_in_text.ensures ends.0 so.going so.short ends.1 ends.3))

pub returns-in-Ok-false-clause-lowers : goal.returns-in-Ok-false-clause-lowers
returns-in-Ok-false-clause-lowers g c = search (rules, lowers_from, ahead_going)

pub returns-in-Err-take_buffered-clause-reads : goal.returns-in-Err-take_buffered-clause-reads
returns-in-Err-take_buffered-clause-reads g c = λ p u given have.
    let fills = rw c.in-Ok-true.field-0-test at c.in-Ok-true.ensures.more in
    let x = filled p u given _ _ _ (c.loop-fault.invariant.reads p u given have) _ _ fills in
    took_fault p u given _ _ _ x (g.R.Source.left c.fill_buffer.new.source) _ c.in-Err-take_buffered.fault _ _ c.in-Err-take_buffered.ensures

pub returns-in-Ok-Some-clause-reads : goal.returns-in-Ok-Some-clause-reads
returns-in-Ok-Some-clause-reads g c = λ p u given have.
    let so = c.loop-fault.invariant in
    let fills = rw c.in-Ok-true.field-0-test at c.in-Ok-true.ensures.more in
    let x = filled p u given _ _ _ (so.reads p u given have) _ _ fills in
    took_item p u given _ _ _ x (g.R.Source.left c.fill_buffer.new.source) _ c.in-Ok-Some.item
    (ap (λ (i : Items). i.has_read_all) fills.new_is ∙ so.more) (rw c.in-Ok-Some.field-0-is at c.in-Ok-Some.ensures)

pub returns-in-Ok-Some-clause-lowers : goal.returns-in-Ok-Some-clause-lowers
returns-in-Ok-Some-clause-lowers g c = search (rules, lowers_buffered)

pub loop-fault-preserved : goal.loop-fault-preserved
loop-fault-preserved g c =
    let so = c.loop-fault.invariant in
    let fills = rw c.in-Ok-true.field-0-test at c.in-Ok-true.ensures.more in
    let takes = rw c.in-Ok-None.field-0-is at c.in-Ok-None.ensures in
    record {
      going = takes.goes;
      more = takes.read_all ∙ ap (λ (i : Items). i.has_read_all) fills.new_is ∙ so.more;
      short = takes.short;
      ahead = omega (arith, takes.nearer, takes.short, ap (λ (i : Items). tokens_ahead i.lexer) fills.new_is, so.ahead);
      failures = c.in-Ok-true.ensures.counted ∙ so.failures;
      text = c.in-Ok-true.ensures.text ∙ so.text;
      reads = λ p u given have.
          took_none p u given _ _ _ (filled p u given _ _ _ (so.reads p u given have) _ _ fills) _ _ takes refl;
    }
