use Rattle.pgn_game.proofs.Words.{rules}
use Rattle.pgn_game.proofs.giving.CurrentFitsInMemory.{items_fit_current}
use Rattle.pgn_game.proofs.giving.ItemsRestarted.{restarts}
use Rattle.pgn_game.proofs.items.Items.restart_at.Goals as goal

pub restart-requires : goal.restart-requires
restart-requires g c = search items_fit_current

pub returns-clause-begins : goal.returns-clause-begins
returns-clause-begins g c = search (rules, restarts)
