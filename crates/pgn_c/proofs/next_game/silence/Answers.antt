use Rattle.pgn_c.proofs.next_game.silence.Goals as goal

pub returns-then-takes_marker-clause-begins : goal.returns-then-takes_marker-clause-begins
returns-then-takes_marker-clause-begins c mode text from begins =
    rw c.if-takes_marker.true (c.take_marker_for_missing_result.ensures.stands _ _ _ begins)

pub returns-else-takes_marker-clause-begins : goal.returns-else-takes_marker-clause-begins
returns-else-takes_marker-clause-begins c mode text from begins = rw c.if-takes_marker.false (c.write_nothing.ensures.stands _ _ _ begins)
