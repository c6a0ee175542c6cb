use Rattle.pgn_tool.proofs.Words.{Appends-trans, err_from_is_err_and, arith, common_steps}
use Rattle.pgn_layout.proofs.OneWriteMore.{front_after, front_of_more, Writes-append}
use Rattle.pgn_tool.proofs.list.write_line.Goals as goal

pub returns-in_err-write_field-clause-written : goal.returns-in_err-write_field-clause-written
returns-in_err-write_field-clause-written g c = grind (arith, common_steps, err_from_is_err_and, front_of_more)

pub returns-in_err-write_field-2-clause-written : goal.returns-in_err-write_field-2-clause-written
returns-in_err-write_field-2-clause-written g c =
    rw (err_from_is_err_and c.from_residual-in_err-write_field-2.result c.from_residual-in_err-write_field-2.ensures.1).1
    (front_of_more _ _ _ _ (front_of_more _ _ _ _
    (front_of_more _ _ _ _ (front_of_more _ _ _ _ (front_after _ _ _ _ _ c.in_ok-write_field.ensures.written c.in_err-write_field-2.ensures.written)))))

pub returns-in_err-write_field-3-clause-written : goal.returns-in_err-write_field-3-clause-written
returns-in_err-write_field-3-clause-written g c =
    rw (err_from_is_err_and c.from_residual-in_err-write_field-3.result c.from_residual-in_err-write_field-3.ensures.1).1
    (front_of_more _ _ _ _ (front_of_more _ _ _ _ (front_of_more _ _ _ _ (front_after _ _ _ _ _
    (Appends-trans _ _ _ _ _ c.in_ok-write_field.ensures.written c.in_ok-write_field-2.ensures.written) c.in_err-write_field-3.ensures.written))))

pub returns-in_err-write_field-4-clause-written : goal.returns-in_err-write_field-4-clause-written
returns-in_err-write_field-4-clause-written g c =
    rw (err_from_is_err_and c.from_residual-in_err-write_field-4.result c.from_residual-in_err-write_field-4.ensures.1).1
    (front_of_more _ _ _ _
    (front_of_more _ _ _ _ (front_after _ _ _ _ _ (Appends-trans _ _ _ _ _ (Appends-trans _ _ _ _ _ c.in_ok-write_field.ensures.written
    c.in_ok-write_field-2.ensures.written) c.in_ok-write_field-3.ensures.written) c.in_err-write_field-4.ensures.written)))

pub returns-in_err-write_field-5-clause-written : goal.returns-in_err-write_field-5-clause-written
returns-in_err-write_field-5-clause-written g c =
    rw (err_from_is_err_and c.from_residual-in_err-write_field-5.result c.from_residual-in_err-write_field-5.ensures.1).1
    (front_of_more _ _ _ _ (front_after _ _ _ _ _ (Appends-trans _ _ _ _ _
    (Appends-trans _ _ _ _ _ (Appends-trans _ _ _ _ _ c.in_ok-write_field.ensures.written c.in_ok-write_field-2.ensures.written)
    c.in_ok-write_field-3.ensures.written) c.in_ok-write_field-4.ensures.written) c.in_err-write_field-5.ensures.written))

pub returns-clause-written : goal.returns-clause-written
returns-clause-written g c = grind (arith, common_steps, Writes-append)
