use Rattle.chess_rules.proofs.Words.{◌∙◌}
use Rattle.chess_rules.proofs.lines.ClearWays.{clear_by_set}
use Rattle.chess_rules.proofs.attack.is_clear.Goals as goal

pub returns : goal.returns
returns c = c.is_empty.ensures ∙ clear_by_set c.args.board.now c.args.from c.args.to c.between.result
    c.occupied.result c.bitand.result c.between.ensures c.occupied.ensures c.bitand.ensures
