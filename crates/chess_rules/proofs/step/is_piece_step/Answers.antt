use Rattle.chess_rules.proofs.Words.{code_reaches, ◌≡◌, ◌∙◌, arith}
use Rattle.chess_rules.proofs.moves.StepsByCode.{step_by_code}
use Rattle.chess_rules.proofs.sets.SetsToSquares.{at_place}
use Rattle.chess_rules.proofs.step.is_piece_step.Goals as goal

pub returns-then-has : goal.returns-then-has
returns-then-has c =
    let m = c.args.mv.now in
    let rules = step_by_code c.args.position.now m c.args.code c.requires.own c.requires.code c.requires.no_pawn in
    let reached : c.has.result ≡ code_reaches c.args.code m.from m.to =
    c.has.ensures.value ∙ at_place c.origins_by_code.result (λ s. code_reaches c.args.code s m.to) m.from
    c.origins_by_code.ensures c.has.ensures.inside c.has.ensures.again in
    grind arith

pub returns-else-has : goal.returns-else-has
returns-else-has c =
    let m = c.args.mv.now in
    let rules = step_by_code c.args.position.now m c.args.code c.requires.own c.requires.code c.requires.no_pawn in
    let reached : c.has.result ≡ code_reaches c.args.code m.from m.to =
    c.has.ensures.value ∙ at_place c.origins_by_code.result (λ s. code_reaches c.args.code s m.to) m.from
    c.origins_by_code.ensures c.has.ensures.inside c.has.ensures.again in
    grind arith
