use Rattle.pgn_lexer.proofs.laws.lexes_once.Goals as goal

pub returns : goal.returns
returns c = Rattle.pgn_lexer.proofs.cutting.EachTextIsCut.lexes_once
