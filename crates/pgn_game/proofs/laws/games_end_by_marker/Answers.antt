use Rattle.pgn_game.proofs.stepping.MarkerEndsGame as marker_ends_game
use Rattle.pgn_game.proofs.laws.games_end_by_marker.Goals as goal

pub returns : goal.returns
returns c = marker_ends_game.games_end_by_marker
