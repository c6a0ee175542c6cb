use Rattle.chess_text.proofs.forms.AgreeingAreFound.{the_one_move_is_read}
use Rattle.chess_text.proofs.laws.the_one_move_is_read.Goals as goal

pub returns : goal.returns
returns c = the_one_move_is_read
