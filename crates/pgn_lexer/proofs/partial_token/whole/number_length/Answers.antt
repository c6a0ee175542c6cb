use Rattle.pgn_lexer.proofs.Words.{refl}
use Rattle.pgn_lexer.proofs.stepping.RunsInPiece.{number_found}
use Rattle.pgn_lexer.proofs.partial_token.whole.number_length.Goals as goal

pub returns : goal.returns
returns c = rw (c.then_some.ensures, c.is_in.ensures) (number_found _ _ c.requires.first c.in_ok-length.ensures _ refl)
