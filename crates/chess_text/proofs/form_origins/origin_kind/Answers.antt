use Rattle.chess_text.proofs.Words.{is_some, form_move, kind_of_move, arith, common_steps}
use Rattle.chess_text.proofs.forms.CastlingMoves.{legal_is_step}
use Rattle.chess_text.proofs.forms.FormOriginKinds.{kind_if_legal, kind_if_other}
use Rattle.chess_text.proofs.form_origins.origin_kind.Goals as goal

pub describes-requires-clause-step : goal.describes-requires-clause-step
describes-requires-clause-step c = grind (arith, common_steps, legal_is_step, is_some)

pub returns-then-describes-clause-kind : goal.returns-then-describes-clause-kind
returns-then-describes-clause-kind c = grind (arith, common_steps, kind_if_legal, is_some, kind_of_move, form_move)

pub returns-else-describes-clause-kind : goal.returns-else-describes-clause-kind
returns-else-describes-clause-kind c = grind (arith, common_steps, kind_if_other, kind_of_move, form_move)
