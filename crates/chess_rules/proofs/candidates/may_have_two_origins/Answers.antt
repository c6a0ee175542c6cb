use Rattle.chess_rules.proofs.Words.{◌∙◌, ap, not}
use Rattle.chess_rules.proofs.trying.SetsToPairs.{one_may_see}
use Rattle.chess_rules.proofs.candidates.may_have_two_origins.Goals as goal

pub returns : goal.returns
returns c = λ some.
    one_may_see c.args.position.now c.args.kind c.args.target c.possible_origins.result c.only.result c.possible_origins.ensures c.only.ensures
    (c.is_none.ensures ∙ ap not some)
