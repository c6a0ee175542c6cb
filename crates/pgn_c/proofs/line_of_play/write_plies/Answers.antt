use Rattle.pgn_c.proofs.Words.{ℕ, ◌+◌, ◌<◌, sym, subst, arith, ap, length, line_ahead}
use Rattle.pgn_c.specs.NextLine.{IsNextLine}
use Rattle.pgn_c.proofs.PlyLines.{PutSoFar, no_room, one_more, some_line}
use Rattle.pgn_c.proofs.line_of_play.write_plies.Goals as goal

pub returns-then-buffer-written : goal.returns-then-buffer-written
returns-then-buffer-written c =
    let so_far = c.loop-at in
    let text = c.push_next.new.text.items in
    let next : IsNextLine c.args.fields so_far.line c.in-Ok-Some.at c.push_next.new.line text = rw c.in-Ok-Some.field-0-is at c.in-Ok-Some.ensures in
    no_room c.args.fields (line_ahead c.args.line.now) (line_ahead so_far.line) c.args.buffer.now so_far.buffer so_far.written so_far.plies so_far.invariant
    next.ply (line_ahead c.push_next.new.line) next.next text c.full_line.result next.line
    (omega (arith, c.if-buffer-written.true, c.len.ensures.value)) (c.full_line.ensures next.ply next.place)

pub loop-at-preserved : goal.loop-at-preserved
loop-at-preserved c =
    let so_far = c.loop-at in
    let text = c.push_next.new.text.items in
    let next : IsNextLine c.args.fields so_far.line c.in-Ok-Some.at c.push_next.new.line text = rw c.in-Ok-Some.field-0-is at c.in-Ok-Some.ensures in
    let some : 0 < length text = omega (arith, some_line c.args.fields next.ply, ap length next.line) in
    subst (λ (n : ℕ). PutSoFar c.args.fields (line_ahead c.args.line.now) (line_ahead c.push_next.new.line) c.args.buffer.now c.put.new.buffer (so_far.written + n) (so_far.plies + 1))
    (sym c.len-written.ensures.value)
    (one_more c.args.fields (line_ahead c.args.line.now) (line_ahead so_far.line) c.args.buffer.now so_far.buffer so_far.written so_far.plies so_far.invariant
    next.ply (line_ahead c.push_next.new.line) next.next text c.put.new.buffer next.line
    some (omega (arith, c.if-buffer-written.false, c.len.ensures.value, some))
    (rw c.as_slice.ensures.value at c.put.ensures))
