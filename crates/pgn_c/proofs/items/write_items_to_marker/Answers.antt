use Rattle.pgn_c.proofs.Words.{◌≤◌, ◌^◌, ℕ, List, ◌++◌, length, Some, arith, refl, sym, subst, ◌∙◌, GivesItem, Full, profile_in}
use Rattle.pgn_c.proofs.ItemsGiven.{all_given_written, buffer_full, fault_written, game_written, more, room_after}
use Rattle.pgn_c.proofs.items.write_items_to_marker.Goals as goal

pub returns-in-Err : goal.returns-in-Err
returns-in-Err c u have short =
    let so = c.loop-fault.invariant.given u have short in
    let s = u ++ c.args.source.now.left.now in
    let rest = c.loop-fault.source.left.now in
    let long = subst (λ (t : List ℕ). length t ≤ 2 ^ 62) so.text short in
    let gives = c.in-Err.ensures.reads (profile_in Full) so.u so.given so.have in
    fault_written c.args.fields s c.args.first c.args.buffer.now c.loop-fault.buffer c.loop-fault.items rest c.loop-fault.lines (omega (arith, c.ranges.first.fits)) so
    _ c.in-Err.fault refl refl (c.items_join.ensures.fault (profile_in Full) so.u rest so.given _ c.next.new.self c.in-Err.fault refl long gives)
    c.refused_items.result c.refused_items.ensures

pub returns-in-Ok-None : goal.returns-in-Ok-None
returns-in-Ok-None c u have short =
    let so = c.loop-fault.invariant.given u have short in
    let s = u ++ c.args.source.now.left.now in
    let rest = c.loop-fault.source.left.now in
    let gives = (rw c.in-Ok-None.field-0-is at c.in-Ok-None.ensures.reads) (profile_in Full) so.u so.given so.have in
    let all = c.items_join.ensures.end (profile_in Full) so.u rest so.given (Some c.next.new.source.left.now) c.next.new.self gives in
    all_given_written c.args.fields s c.args.first c.args.buffer.now c.loop-fault.buffer c.loop-fault.items rest c.loop-fault.lines (omega (arith, c.ranges.first.fits)) so
    _ all.1 c.plain_result.result c.plain_result.ensures

pub returns-then-not-put_item : goal.returns-then-not-put_item
returns-then-not-put_item c u have short =
    let so = c.loop-fault.invariant.given u have short in
    let s = u ++ c.args.source.now.left.now in
    let left = c.next.new.source.left.now in
    let gives : GivesItem (profile_in Full) so.u so.given (Some c.loop-fault.source.left.now) (Some left) c.next.new.self c.in-Ok-Some.item =
    (rw c.in-Ok-Some.field-0-is at c.in-Ok-Some.ensures.reads) (profile_in Full) so.u so.given so.have in
    buffer_full c.args.fields s c.args.first c.args.buffer.now c.loop-fault.buffer c.loop-fault.items c.loop-fault.source.left.now c.loop-fault.lines
    (omega (arith, c.ranges.first.fits)) so left c.next.new.self c.in-Ok-Some.item gives c.put_item.new.self c.put_item.new.buffer c.put_item.result c.put_item.ensures
    (c.items_join.ensures.front (profile_in Full) (so.u ++ gives.more) left c.next.new.self _ gives.have_given) c.full_items.result
    c.if-not-put_item.true c.full_items.ensures

pub returns-then-is_marker : goal.returns-then-is_marker
returns-then-is_marker c u have short =
    let so = c.loop-fault.invariant.given u have short in
    let s = u ++ c.args.source.now.left.now in
    let left = c.next.new.source.left.now in
    let gives : GivesItem (profile_in Full) so.u so.given (Some c.loop-fault.source.left.now) (Some left) c.next.new.self c.in-Ok-Some.item =
    (rw c.in-Ok-Some.field-0-is at c.in-Ok-Some.ensures.reads) (profile_in Full) so.u so.given so.have in
    game_written c.args.fields s c.args.first c.args.buffer.now c.loop-fault.buffer c.loop-fault.items c.loop-fault.source.left.now c.loop-fault.lines
    (omega (arith, c.ranges.first.fits)) so left c.next.new.self c.in-Ok-Some.item gives c.put_item.new.self c.put_item.new.buffer c.put_item.result c.put_item.ensures
    (c.items_join.ensures.front (profile_in Full) (so.u ++ gives.more) left c.next.new.self _ gives.have_given) c.whole_game.result
    c.if-not-put_item.false (sym c.is_marker.ensures ∙ c.if-is_marker.true) _ c.whole_game.ensures c.place.ensures.place
    (c.items_join.ensures.first (profile_in Full) (so.u ++ gives.more) left c.next.new.self _ gives.have_given)

pub loop-fault-preserved : goal.loop-fault-preserved
loop-fault-preserved c = record {
  room = room_after c.args.fields c.args.first c.next.new.self.current c.in-Ok-Some.item c.loop-fault.lines c.put_item.new.self c.loop-fault.buffer c.put_item.new.buffer
      c.loop-fault.invariant.room (rw c.if-not-put_item.false at c.put_item.ensures);
  given = λ u have short.
      let so = c.loop-fault.invariant.given u have short in
      let left = c.next.new.source.left.now in
      let gives : GivesItem (profile_in Full) so.u so.given (Some c.loop-fault.source.left.now) (Some left) c.next.new.self c.in-Ok-Some.item =
      (rw c.in-Ok-Some.field-0-is at c.in-Ok-Some.ensures.reads) (profile_in Full) so.u so.given so.have in
      more c.args.fields (u ++ c.args.source.now.left.now) c.args.first c.args.buffer.now c.loop-fault.buffer c.loop-fault.items c.loop-fault.source.left.now c.loop-fault.lines
      (omega (arith, c.ranges.first.fits)) so left c.next.new.self c.in-Ok-Some.item gives c.put_item.new.self c.put_item.new.buffer c.put_item.result c.put_item.ensures
      c.if-not-put_item.false (sym c.is_marker.ensures ∙ c.if-is_marker.false);
}
