use Rattle.pgn_lexer.proofs.laws.tokens_rise.Goals as goal

pub returns : goal.returns
returns c = Rattle.pgn_lexer.proofs.cutting.PlacesOfTokens.tokens_rise
