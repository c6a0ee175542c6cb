use Rattle.pgn_lexer.proofs.Words.{refl, rules}
use Rattle.pgn_lexer.proofs.bytes.TablesOfBytes.{in_set, sets_of, table_at}
use Rattle.pgn_lexer.proofs.class.is_in.Goals as goal

pub returns : goal.returns
returns c = in_set _ _ _ _ (table_at sets_of _ _ _ refl c.ranges.byte.fits) (search rules) c.ranges.byte.fits
