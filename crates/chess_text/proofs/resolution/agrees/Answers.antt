use Rattle.chess_text.proofs.Words.{is_some, arith, common_steps, rules}
use Rattle.chess_text.proofs.forms.CastlingMoves.{castles_by_king, fits_by_kind, legal_is_step}
use Rattle.chess_text.proofs.resolution.agrees.Goals as goal
use Rattle.chess_text.proofs.resolution.agrees.Goals.{then-eq, else-eq}

pub is_castling-requires : goal.is_castling-requires
is_castling-requires c = grind (arith, common_steps, legal_is_step, is_some)

pub returns-after-eq-clause-agrees : goal.returns-after-eq-clause-agrees
returns-after-eq-clause-agrees c = search (rules, castles_by_king, fits_by_kind, is_some)
