use Rattle.pgn_lexer.proofs.laws.written_tokens_are_read_back.Goals as goal

pub returns-clause-places : goal.returns-clause-places
returns-clause-places c = Rattle.pgn_lexer.proofs.cutting.WrittenToTokens.pieces_are_read_back

pub returns-clause-kinds : goal.returns-clause-kinds
returns-clause-kinds c = Rattle.pgn_lexer.proofs.cutting.WrittenToTokens.kinds_are_read_back
