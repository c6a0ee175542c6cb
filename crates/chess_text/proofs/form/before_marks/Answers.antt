use Rattle.chess_text.proofs.Words.{inl, inr, arith, common_steps}
use Rattle.chess_text.proofs.forms.SpellingToForm.{cut_where}
use Rattle.chess_text.proofs.form.before_marks.Goals as goal
use Rattle.chess_text.proofs.form.before_marks.Goals.{then-loop-end-test+else-is_mark, else-loop-end-test}

pub returns : goal.returns
returns c = grind (arith, common_steps, cut_where, then-loop-end-test+else-is_mark, inr, else-loop-end-test, inl)
