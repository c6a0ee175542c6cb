use Rattle.pgn_game.proofs.Words.{rules}
use Rattle.pgn_game.proofs.exporting.ExportToGames.{text_spells}
use Rattle.pgn_game.proofs.laws.text_spells.Goals as goal

pub returns : goal.returns
returns c = search (rules, text_spells)
