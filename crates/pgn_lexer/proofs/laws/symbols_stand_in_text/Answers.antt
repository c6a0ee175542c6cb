use Rattle.pgn_lexer.proofs.laws.symbols_stand_in_text.Goals as goal

pub returns : goal.returns
returns c = Rattle.pgn_lexer.proofs.cutting.SymbolsInText.symbols_stand_in_text
