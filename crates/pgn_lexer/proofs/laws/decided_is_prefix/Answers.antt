use Rattle.pgn_lexer.proofs.laws.decided_is_prefix.Goals as goal

pub returns : goal.returns
returns c = Rattle.pgn_lexer.proofs.deciding.TextSettles.decided_is_prefix
