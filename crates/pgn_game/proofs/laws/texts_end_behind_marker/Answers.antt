use Rattle.pgn_game.proofs.stepping.TextEndsGame as text_ends_game
use Rattle.pgn_game.proofs.laws.texts_end_behind_marker.Goals as goal

pub returns : goal.returns
returns c = text_ends_game.behind_marker c.symbols_stand_in_text.ensures c.games_end_by_marker.ensures
