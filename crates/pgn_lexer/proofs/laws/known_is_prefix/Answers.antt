use Rattle.pgn_lexer.proofs.laws.known_is_prefix.Goals as goal

pub returns : goal.returns
returns c = Rattle.pgn_lexer.proofs.deciding.TextSettles.known_is_prefix
