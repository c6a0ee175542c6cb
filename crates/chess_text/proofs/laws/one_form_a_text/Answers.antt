use Rattle.chess_text.proofs.Words.{sym, ◌∙◌, same_Some}
use Rattle.chess_text.proofs.forms.SpellingToForm.{form_read}
use Rattle.chess_text.proofs.laws.one_form_a_text.Goals as goal

pub returns : goal.returns
returns c = λ s f g on_f on_g h i. same_Some f g (sym (form_read s f h on_f) ∙ form_read s g i on_g)
