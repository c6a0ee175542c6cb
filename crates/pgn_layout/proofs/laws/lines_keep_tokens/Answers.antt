use Rattle.pgn_layout.proofs.TokensInText as tokens_in_text
use Rattle.pgn_layout.proofs.laws.lines_keep_tokens.Goals as goal

pub returns-clause-lines : goal.returns-clause-lines
returns-clause-lines c = tokens_in_text.lines_keep_tokens

pub returns-clause-computed : goal.returns-clause-computed
returns-clause-computed c = tokens_in_text.lines_of_keep_tokens
