use Rattle.pgn_game.proofs.Words.{rules}
use Rattle.pgn_game.proofs.giving.ItemsJoined.{end_gives_all, end_uses_all, fault_gives_all, fault_keeps_position, given_is_front, tokens_are_first}
use Rattle.pgn_game.proofs.laws.items_join.Goals as goal

pub returns : goal.returns
returns c = search (rules, given_is_front, tokens_are_first, end_gives_all, end_uses_all, fault_gives_all, fault_keeps_position)
