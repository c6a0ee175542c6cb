use Rattle.pgn_game.proofs.giving.LastTokenToItems.{reads_last, reads_last_fault, reads_last_refused}
use Rattle.pgn_game.proofs.items.read_last_token.Goals as goal

pub returns-in-Ok : goal.returns-in-Ok
returns-in-Ok g c =
    reads_last _ _ _ _ c.requires.sound _ (rw c.in-Token.is at c.finish.follows.holds-at-none) _ c.is_end-is_end.ensures c.in-Ok.item c.in-Ok.ensures

pub returns-in-Err : goal.returns-in-Err
returns-in-Err g c =
    reads_last_refused _ _ _ _ c.requires.sound _ (rw c.in-Token.is at c.finish.follows.holds-at-none) _ c.is_end-is_end.ensures c.in-Err.reason c.in-Err.ensures

pub returns-in-Fault : goal.returns-in-Fault
returns-in-Fault g c =
    rw c.lexical.ensures
    (reads_last_fault _ _ _ c.args.current.now c.requires.sound c.in-Fault.fault (rw c.in-Fault.is at c.finish.follows.holds-at-none) (c.requires.last, c.requires.pending))
