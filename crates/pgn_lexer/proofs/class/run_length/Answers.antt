use Rattle.pgn_lexer.proofs.Words.{rules}
use Rattle.pgn_lexer.proofs.bytes.RunsOfASet.{run_found}
use Rattle.pgn_lexer.proofs.class.run_length.Goals as goal

pub returns : goal.returns
returns c = search (rules, run_found)
