use Rattle.chess_text.proofs.Words.{length, set, take, take_more_set, rules, length-set}
use Rattle.chess_text.proofs.positions.BoardToText.{refilled, first_rank, next_rank, last_rank_written}
use Rattle.chess_text.proofs.placement.push_board.Goals as goal

pub loop-below-init : goal.loop-below-init
loop-below-init c = search (rules, length, refilled, take, first_rank)

pub loop-below-preserved : goal.loop-below-preserved
loop-below-preserved c = search (rules, set, length, refilled, length-set, take, next_rank, take_more_set)

pub returns-clause-text : goal.returns-clause-text
returns-clause-text c = search (rules, last_rank_written)
