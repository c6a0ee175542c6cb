use Rattle.pgn_game.proofs.Words.{ℕ, ◌-◌, ◌^◌, ◌<◌, List, length, length-take, arith, ap, subst, rules}
use Rattle.pgn_game.proofs.giving.BufferToItems.{empty_if, some_if, stops_too_long, takes_fault, takes_on}
use Rattle.pgn_game.proofs.giving.CurrentFitsInMemory.{items_fit_current}
use Rattle.pgn_game.proofs.stepping.StepsAtEnd.{sound_behind_fault}
use Rattle.pgn_game.proofs.items.Items.take_buffered.Goals as goal

pub returns-then-is_empty : goal.returns-then-is_empty
returns-then-is_empty g c = search (rules, stops_too_long, empty_if)

pub read_token-used-requires : goal.read_token-used-requires
read_token-used-requires g c =
    let going = rw (← c.self.view_is) at c.requires.going in
    let piece_is = rw (c.place.ensures, c.unused.ensures) at c.within_limit-piece.ensures in (
      search items_fit_current,
      (
        rw (going.no_fault, going.not_finished) at c.self.invariant,
        (
          going.last,
          (
            going.pending,
            (
              some_if (length c.within_limit-piece.result.now) c.if-is_empty.ensures,
              omega (arith, ap length piece_is, length-take (2 ^ 62 - c.self.inside.lexer.count) c.self.inside.buffer, c.self.invariant.count),
            ),
          ),
        ),
      ),
    )

pub invariant_of-self-in-Err : goal.invariant_of-self-in-Err
invariant_of-self-in-Err g c = search (rules, sound_behind_fault, length-take)

pub returns-in-Ok : goal.returns-in-Ok
returns-in-Ok g c =
    let going = rw (← c.self.view_is) at c.requires.going in
    let piece_is = rw (c.place.ensures, c.unused.ensures) at c.within_limit-piece.ensures in
    rw (← c.self.view_is, c.skip.ensures)
    (takes_on _ going c.self.invariant.count _ _ c.read_token-used.result.0
    (subst (λ (xs : List ℕ). 0 < length xs) piece_is (some_if (length c.within_limit-piece.result.now) c.if-is_empty.ensures)) c.in-Ok.item (rw (piece_is, c.in-Ok.is) at c.read_token-used.ensures))

pub returns-in-Err : goal.returns-in-Err
returns-in-Err g c =
    let going = rw (← c.self.view_is) at c.requires.going in
    let piece_is = rw (c.place.ensures, c.unused.ensures) at c.within_limit-piece.ensures in
    rw (← c.self.view_is, c.skip.ensures)
    (takes_fault _ going c.self.invariant.count _ _ c.read_token-used.result.0
    (subst (λ (xs : List ℕ). 0 < length xs) piece_is (some_if (length c.within_limit-piece.result.now) c.if-is_empty.ensures)) c.in-Err.fault (rw (piece_is, c.in-Err.is) at c.read_token-used.ensures))
