use Rattle.pgn_game.proofs.stepping.TextEndsGame as text_ends_game
use Rattle.pgn_game.proofs.laws.texts_end_between_games.Goals as goal

pub returns : goal.returns
returns c = text_ends_game.between_games c.tokens_rise.ensures
