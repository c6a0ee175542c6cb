use Rattle.pgn_lexer.proofs.Words.{rules}
use Rattle.pgn_lexer.proofs.stepping.WholeRuns.{passes_none}
use Rattle.pgn_lexer.proofs.partial_token.PartialToken.whole_token.Goals as goal

pub returns-in-Comment-Brace-clause-reads : goal.returns-in-Comment-Brace-clause-reads
returns-in-Comment-Brace-clause-reads c = c.whole_in_comment.ensures.reads c.args.skips_numbers

pub returns-in-Comment-LineEnd-clause-reads : goal.returns-in-Comment-LineEnd-clause-reads
returns-in-Comment-LineEnd-clause-reads c = c.whole_in_comment-in-Comment-LineEnd.ensures.reads c.args.skips_numbers

pub returns-in_default : goal.returns-in_default
returns-in_default c = search (rules, passes_none)
