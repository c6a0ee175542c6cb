use Rattle.pgn_lexer.proofs.laws.tokens_are_sound.Goals as goal

pub returns : goal.returns
returns c = Rattle.pgn_lexer.proofs.cutting.TokensAreSound.tokens_are_sound
