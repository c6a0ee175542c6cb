use Rattle.pgn_game.proofs.Words.{rules}
use Rattle.pgn_game.proofs.putting.NumberToTokens.{glyph_token, puts_token}
use Rattle.pgn_game.proofs.number.put_glyph.Goals as goal

pub put_parts-requires : goal.put_parts-requires
put_parts-requires g c = search (rules, glyph_token)

pub returns : goal.returns
returns g c = search (rules, puts_token, glyph_token)
