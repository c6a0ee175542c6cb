use Rattle.pgn_layout.proofs.Words.{◌<◌, length, arith, nat_tests}
use Rattle.pgn_layout.proofs.OneWriteMore.{Writes-append, ended_line}
use Rattle.pgn_layout.proofs.current_line.CurrentLine.end_game.Goals as goal

pub returns-clause-text : goal.returns-clause-text
returns-clause-text g c =
    let holds : 0 < length c.self.inside.bytes.items = grind (arith, nat_tests) in
    rw (← c.self.view_is, ended_line c.self.inside.bytes.items holds)
    (Writes-append _ _ _ _ _ _ c.in_ok-write_line.ensures.text c.write_all-2.ensures.bytes)
