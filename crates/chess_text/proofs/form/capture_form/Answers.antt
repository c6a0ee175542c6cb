use Rattle.chess_text.proofs.Words.{sym, ◌∙◌}
use Rattle.chess_text.proofs.forms.CommonForms.{piece_capture, pawn_capture}
use Rattle.chess_text.proofs.form.capture_form.Goals as goal

pub returns-in-Some : goal.returns-in-Some
returns-in-Some c =
    piece_capture c.args.first c.args.file c.args.rank c.in-Some.kind _ (sym c.kind_of_letter.ensures ∙ c.in-Some.is) c.move_form.ensures

pub returns-in_ok-file_of-in-None : goal.returns-in_ok-file_of-in-None
returns-in_ok-file_of-in-None c =
    pawn_capture c.args.first c.args.file c.args.rank c.in_ok-file_of-in-None.field-0 _
    (sym c.file_of.ensures ∙ c.in_ok-file_of-in-None.was) c.move_form-in-None.ensures

pub returns-in_err-file_of-in-None : goal.returns-in_err-file_of-in-None
returns-in_err-file_of-in-None c = rw c.from_residual.ensures tt
