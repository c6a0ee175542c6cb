use Rattle.pgn_game.proofs.Words.{Err, Ok, arith}
use Rattle.pgn_game.proofs.ReaderLemmas.{reader_alike}
use Rattle.pgn_game.specs.steps.Accepted.{no_writer}
use Rattle.pgn_game.proofs.giving.SilentEvents.{entry_accepted, outside_accepted, outside_refused}
use Rattle.pgn_game.proofs.reader.Reader.accept.Goals as goal

pub accept_in_movetext-requires : goal.accept_in_movetext-requires
accept_in_movetext-requires g c =
    let enters = c.in-None.ensures.takes no_writer in
    (search reader_alike, (record { few = omega (arith, c.requires.few, enters.plies); stage = enters.stage }, c.requires.token))

pub returns-in-Err : goal.returns-in-Err
returns-in-Err g c = entry_accepted _ _ _ (c.in-None.ensures.takes no_writer) (Err c.in-Err.reason) c.in-Err.ensures

pub returns-in-Ok : goal.returns-in-Ok
returns-in-Ok g c = entry_accepted _ _ _ (c.in-None.ensures.takes no_writer) (Ok c.in-Ok.event) c.in-Ok.ensures

pub returns-in-Some-Ok : goal.returns-in-Some-Ok
returns-in-Some-Ok g c =
    outside_accepted (rw c.in-Some-Ok.field-0-is at (c.in-Some-Ok.ensures.takes no_writer)) c.in-Some-Ok.ensures.outside

pub returns-in-Some-Err : goal.returns-in-Some-Err
returns-in-Some-Err g c = outside_refused (rw c.in-Some-Err.field-0-is at (c.in-Some-Err.ensures.takes no_writer))
