use Rattle.std.proofs.Common.{◌+◌, ◌++◌, length, arith, length-append}
use Rattle.pgn_c.proofs.PutTwice.{put_ends, put_goes_on, puts_both}
use Rattle.pgn_c.proofs.items.Lines.put.Goals as goal

pub returns-then-ends_line : goal.returns-then-ends_line
returns-then-ends_line c =
    let self = c.args.self.now in
    let both = c.args.front.now ++ c.args.word.now in
    puts_both self _ c.args.front.now c.args.word.now c.args.buffer.now c.put_at.new.buffer c.put_at-2.new.buffer c.args.ends_line
    (omega (arith, c.if-room-front.false, c.if-room-front-2.false, c.requires)) c.put_at.ensures c.put_at-2.ensures
    (put_ends self (length both) c.saturating_add-self.result (self.used + (length c.args.front.now + length c.args.word.now)) c.args.ends_line
    c.if-ends_line.true c.saturating_add-self.ensures (omega (arith, length-append c.args.front.now c.args.word.now)))

pub returns-else-ends_line : goal.returns-else-ends_line
returns-else-ends_line c =
    let self = c.args.self.now in
    let both = c.args.front.now ++ c.args.word.now in
    puts_both self _ c.args.front.now c.args.word.now c.args.buffer.now c.put_at.new.buffer c.put_at-2.new.buffer c.args.ends_line
    (omega (arith, c.if-room-front.false, c.if-room-front-2.false, c.requires)) c.put_at.ensures c.put_at-2.ensures
    (put_goes_on self (length both) c.saturating_add-self.result (self.used + (length c.args.front.now + length c.args.word.now)) c.args.ends_line
    c.if-ends_line.false c.saturating_add-self.ensures (omega (arith, length-append c.args.front.now c.args.word.now)))
