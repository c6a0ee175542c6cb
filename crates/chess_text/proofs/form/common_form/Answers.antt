use Rattle.chess_text.proofs.Words.{sym, ◌∙◌, arith}
use Rattle.chess_text.proofs.forms.CommonForms.{pawn_move, piece_move, with_x}
use Rattle.chess_text.proofs.form.common_form.Goals as goal

pub returns-in-len2 : goal.returns-in-len2
returns-in-len2 c = pawn_move c.args.text.now _ (omega arith) c.move_form.ensures

pub returns-in_ok-kind_of_letter-in-len3 : goal.returns-in_ok-kind_of_letter-in-len3
returns-in_ok-kind_of_letter-in-len3 c =
    piece_move c.args.text.now c.in_ok-kind_of_letter-in-len3.field-0 _ (omega arith)
    (sym c.kind_of_letter.ensures ∙ c.in_ok-kind_of_letter-in-len3.was) c.move_form-in-len3.ensures

pub returns-in-120 : goal.returns-in-120
returns-in-120 c = with_x c.args.text.now _ (omega arith) (omega arith) c.capture_form.ensures

pub returns-in_err-kind_of_letter-in-len3 : goal.returns-in_err-kind_of_letter-in-len3
returns-in_err-kind_of_letter-in-len3 c = rw c.from_residual.ensures tt
