use Rattle.pgn_game.proofs.Words.{rules}
use Rattle.pgn_game.proofs.giving.BufferToItems.{some_if, some_left}
use Rattle.pgn_game.proofs.items.Items.fill_buffer.Goals as goal

pub returns-then-not-is_empty-clause-more : goal.returns-then-not-is_empty-clause-more
returns-then-not-is_empty-clause-more g c = search (rules, some_left, some_if)
