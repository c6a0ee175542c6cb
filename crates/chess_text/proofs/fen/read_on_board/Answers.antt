use Rattle.chess_text.proofs.Words.{◌≡◌, length, ◌&&◌, sym, ◌∙◌, ap, arith, Option, Ok, Err, ◌==◌, is_none, field, rest, parts_or_fault, side_of, rights_of, target_of, number_of, Some, rules, if◌then◌else◌, nat_tests, Parts, built_unless, position_fault, at_field, if_position, common_steps}
use Rattle.chess_rules.specs.declared.position.PositionFault.{PositionFault}
use Rattle.chess_text.proofs.fen.read_on_board.Goals as goal

-- the parts of a program have 64 cells, so they are a position if no rule finds a fault
of_fault : (p : Parts) (o : Option PositionFault) → length p.board ≡ 64
    → (if (length p.board == 64) && is_none o then Ok p else at_field 7) ≡ (if is_none o then Ok p else at_field 7)
of_fault p o long = grind (arith, common_steps, nat_tests)

no_fault : (p q : Parts) (o : Option PositionFault) → Ok q ≡ built_unless o p → Ok q ≡ (if is_none o then Ok p else at_field 7)
no_fault p q o h = grind arith

a_fault : (p : Parts) (f : PositionFault) (o : Option PositionFault)
    → Err f ≡ built_unless o p → at_field 7 ≡ (if is_none o then Ok p else at_field 7)
a_fault p f o h = grind arith

pub returns-in-Ok : goal.returns-in-Ok
returns-in-Ok c =
    let t = c.args.text.now in
    let p : Parts = record { board = c.args.board; side = c.in-Some.side; rights = c.in-Some-read_rights.rights; target = c.in-Some-read_target.target; half = c.in-Some-read_number.half; full = c.in-Some-read_number-2.full } in
    let parts : Ok p ≡ parts_or_fault (Some c.args.board) (side_of (field 1 t)) (rights_of (field 2 t)) (target_of (field 3 t)) (number_of (field 4 t)) (number_of (rest 4 t)) = search rules in
    no_fault p _ _ c.in-Ok.ensures.value ∙ sym (of_fault p (position_fault p) c.in-Ok.ensures.long) ∙ ap if_position parts

pub returns-in-Err : goal.returns-in-Err
returns-in-Err c =
    let t = c.args.text.now in
    let p : Parts = record { board = c.args.board; side = c.in-Some.side; rights = c.in-Some-read_rights.rights; target = c.in-Some-read_target.target; half = c.in-Some-read_number.half; full = c.in-Some-read_number-2.full } in
    let parts : Ok p ≡ parts_or_fault (Some c.args.board) (side_of (field 1 t)) (rights_of (field 2 t)) (target_of (field 3 t)) (number_of (field 4 t)) (number_of (rest 4 t)) = search rules in
    a_fault p c.in-Err.field-0 _ c.in-Err.ensures.value ∙ sym (of_fault p (position_fault p) c.in-Err.ensures.long) ∙ ap if_position parts
