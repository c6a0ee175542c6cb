use Rattle.pgn_lexer.proofs.lexer.Lexer.begin_at.Goals as goal

pub returns-clause-stands : goal.returns-clause-stands
returns-clause-stands c = Rattle.pgn_lexer.proofs.cutting.TextsRestart.begins_at _ _ _ c.begin_at.ensures
