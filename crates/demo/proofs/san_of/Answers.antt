use Rattle.std.proofs.Common.{sym}
use Rattle.demo.proofs.san_of.Goals as goal

-- The move that `resolve` answers is legal, by the law.
pub write_san-requires-clause-legal : goal.write_san-requires-clause-legal
write_san-requires-clause-legal c =
    ((c.the_one_move_is_read.ensures c.in_ok-position.position c.in_ok-form.form c.in-Ok.played).0 (sym c.in-Ok.ensures.answer)).1
