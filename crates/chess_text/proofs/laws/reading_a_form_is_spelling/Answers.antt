use Rattle.chess_text.proofs.forms.SpellingToForm.{form_read}
use Rattle.chess_text.proofs.forms.FormToSpelling.{form_spelled}
use Rattle.chess_text.proofs.laws.reading_a_form_is_spelling.Goals as goal

pub returns : goal.returns
returns c = λ s f. (λ h. form_read s f h.0 h.1, λ h. form_spelled s f h)
