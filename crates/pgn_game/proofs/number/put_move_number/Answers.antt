use Rattle.pgn_game.proofs.Words.{rules}
use Rattle.pgn_game.proofs.putting.NumberToTokens.{number_token, puts_token}
use Rattle.pgn_game.proofs.number.put_move_number.Goals as goal

pub put_parts-requires : goal.put_parts-requires
put_parts-requires g c = search (rules, number_token)

pub returns : goal.returns
returns g c = search (rules, puts_token, number_token)
