use Rattle.pgn_game.proofs.Words.{None, refl, sym, true, ◌∙◌}
use Rattle.pgn_game.proofs.giving.CurrentFitsInMemory.{items_fit_current}
use Rattle.pgn_game.proofs.giving.SourceToItems.{takes_last, takes_last_fault}
use Rattle.pgn_game.proofs.items.Items.take_at_end.Goals as goal

pub returns-then-is_end : goal.returns-then-is_end
returns-then-is_end g c =
    let going = rw (← c.self.view_is) at c.requires.going in
    let all = rw (← c.self.view_is) at c.requires.all in
    rw (← c.self.view_is)
    (takes_last _ going all _ _ c.read_last_token-is_end.result.0 true true None c.in-Ok.item refl (sym c.if-is_end.true) refl
    (rw c.in-Ok.is at c.read_last_token-is_end.ensures))

pub returns-else-is_end : goal.returns-else-is_end
returns-else-is_end g c =
    let going = rw (← c.self.view_is) at c.requires.going in
    let all = rw (← c.self.view_is) at c.requires.all in
    rw (← c.self.view_is)
    (takes_last _ going all _ _ c.read_last_token-is_end.result.0 _ _ _ c.in-Ok.item all (going.not_finished ∙ sym c.if-is_end.false) going.no_fault
    (rw c.in-Ok.is at c.read_last_token-is_end.ensures))

pub returns-in-Err : goal.returns-in-Err
returns-in-Err g c =
    let going = rw (← c.self.view_is) at c.requires.going in
    let all = rw (← c.self.view_is) at c.requires.all in
    rw (← c.self.view_is)
    (takes_last_fault _ going all _ _ c.in-Err.fault c.read_last_token-is_end.result.0 (rw c.in-Err.is at c.read_last_token-is_end.ensures))

pub read_last_token-is_end-requires : goal.read_last_token-is_end-requires
read_last_token-is_end-requires g c =
    let going = rw (← c.self.view_is) at c.requires.going in
    (search items_fit_current, (rw (going.no_fault, going.not_finished) at c.self.invariant, (going.last, going.pending)))
