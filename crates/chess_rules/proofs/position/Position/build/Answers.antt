use Rattle.chess_rules.proofs.Words.{◌∙◌, ap, built}
use Rattle.chess_rules.proofs.position.Position.build.Goals as goal

pub returns : goal.returns
returns c = c.build_on.ensures.value ∙ ap (λ b. built (record c.args.parts.now { board = b })) c.of.ensures
