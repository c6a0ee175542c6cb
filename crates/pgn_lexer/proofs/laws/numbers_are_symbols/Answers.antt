use Rattle.pgn_lexer.proofs.laws.numbers_are_symbols.Goals as goal

pub returns : goal.returns
returns c = Rattle.pgn_lexer.proofs.bytes.DecimalsAreSymbols.numbers_are_symbols
