use Rattle.pgn_lexer.proofs.laws.texts_restart.Goals as goal

pub returns : goal.returns
returns c = Rattle.pgn_lexer.proofs.cutting.TextsRestart.texts_restart
