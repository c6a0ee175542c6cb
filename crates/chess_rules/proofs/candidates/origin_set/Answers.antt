use Rattle.chess_rules.proofs.trying.SetsToPairs.{clear_are, jumps_are}
use Rattle.chess_rules.proofs.candidates.origin_set.Goals as goal

pub returns-in-Knight : goal.returns-in-Knight
returns-in-Knight c =
    jumps_are c.args.position.now c.args.kind c.args.target c.possible_origins-possible.result c.in-Knight.is c.possible_origins-possible.ensures

pub returns-in_default : goal.returns-in_default
returns-in_default c =
    clear_are c.args.position.now c.args.kind c.args.target c.board.result.now c.possible_origins-possible.result c.clear_among.result
    c.board.ensures c.possible_origins-possible.ensures c.clear_among.ensures
