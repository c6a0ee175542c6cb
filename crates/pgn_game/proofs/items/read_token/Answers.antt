use Rattle.pgn_game.proofs.Words.{arith, rules}
use Rattle.pgn_game.proofs.giving.CurrentFitsInMemory.{current_alike}
use Rattle.pgn_game.proofs.giving.WholeTokenToItems.{reads_at_once, reads_space, reads_whole_item, reads_whole_refused, sound_behind}
use Rattle.pgn_game.proofs.stepping.PastNumbers.{passes_count}
use Rattle.pgn_game.proofs.items.read_token.Goals as goal

pub is_in_movetext-requires : goal.is_in_movetext-requires
is_in_movetext-requires g c = search current_alike

pub read_by_bytes-requires : goal.read_by_bytes-requires
read_by_bytes-requires g c =
    let passes = rw c.in_default.is at c.whole_token-used.ensures.reads in (
      search current_alike,
      (
        sound_behind _ c.args.current.now _ c.requires.last c.requires.pending c.requires.sound c.requires.short (c.is_in_movetext.ensures.0)
            passes c.whole_token-used.ensures.used,
        (
          c.requires.last,
          (c.requires.pending, (c.requires.some, omega (arith, passes_count passes, c.if-used-eq0.true, c.requires.short))),
        ),
      ),
    )

pub returns-then-used-eq0 : goal.returns-then-used-eq0
returns-then-used-eq0 g c =
    let passes = rw c.in_default.is at c.whole_token-used.ensures.reads in search (rules, reads_at_once)

pub returns-in_default : goal.returns-in_default
returns-in_default g c =
    let passes = rw c.in_default.is at c.whole_token-used.ensures.reads in
    reads_space _ c.args.current.now _ c.requires.last c.requires.pending c.requires.sound c.requires.short (c.is_in_movetext.ensures.0)
    passes c.whole_token-used.ensures.used (omega (arith, c.if-used-eq0.false))

pub take-requires : goal.take-requires
take-requires g c = search (rules, current_alike)

pub returns-in-Ok : goal.returns-in-Ok
returns-in-Ok g c =
    reads_whole_item _ c.args.current.now _ c.requires.last c.requires.pending c.requires.sound c.requires.short (c.is_in_movetext.ensures.0)
    _ _ _ _ c.whole_token-used.ensures.used
    (rw c.in-Some.is at c.whole_token-used.ensures.reads) c.in-Ok.item c.in-Ok.ensures

pub returns-in-Err : goal.returns-in-Err
returns-in-Err g c =
    reads_whole_refused _ c.args.current.now _ c.requires.last c.requires.pending c.requires.sound c.requires.short (c.is_in_movetext.ensures.0)
    _ _ _ _ c.whole_token-used.ensures.used
    (rw c.in-Some.is at c.whole_token-used.ensures.reads) c.in-Err.reason c.in-Err.ensures
