use Rattle.pgn_game.proofs.giving.TokenToItems.{reads_fault, reads_item, reads_nothing, reads_refused}
use Rattle.pgn_game.proofs.items.read_by_bytes.Goals as goal

pub returns-in-NeedMore : goal.returns-in-NeedMore
returns-in-NeedMore g c =
    reads_nothing _ _ _ c.args.current.now _ _ c.requires.some c.requires.short c.requires.sound c.next-scan.ensures.used
    (rw c.in-NeedMore.is at c.next-scan.follows.holds-at-none) c.requires.last c.requires.pending

pub returns-in-Ok : goal.returns-in-Ok
returns-in-Ok g c =
    reads_item _ _ _ _ _ _ c.requires.some c.requires.short c.requires.sound c.next-scan.ensures.used _
    (rw c.in-Token.is at c.next-scan.follows.holds-at-none) c.in-Ok.item c.in-Ok.ensures

pub returns-in-Err : goal.returns-in-Err
returns-in-Err g c =
    reads_refused _ _ _ _ _ _ c.requires.some c.requires.short c.requires.sound c.next-scan.ensures.used _
    (rw c.in-Token.is at c.next-scan.follows.holds-at-none) c.in-Err.reason c.in-Err.ensures

pub returns-in-Fault : goal.returns-in-Fault
returns-in-Fault g c =
    rw c.lexical.ensures
    (reads_fault _ _ _ c.args.current.now _ _ c.requires.some c.requires.short c.requires.sound c.next-scan.ensures.used
    c.in-Fault.fault (rw c.in-Fault.is at c.next-scan.follows.holds-at-none) c.requires.last c.requires.pending)
