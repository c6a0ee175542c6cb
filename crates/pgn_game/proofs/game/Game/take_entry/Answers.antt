use Rattle.pgn_game.proofs.Words.{rules}
use Rattle.pgn_game.proofs.ReaderLemmas.{game_alike}
use Rattle.pgn_game.proofs.putting.TokenAtPlace.{entered}
use Rattle.pgn_game.proofs.stepping.PastNumbers.{enters_in_movetext}
use Rattle.pgn_game.proofs.game.Game.take_entry.Goals as goal

pub take-requires : goal.take-requires
take-requires g c = search (rules, game_alike)

pub returns : goal.returns
returns g c = search (rules, entered, enters_in_movetext)
