use Rattle.chess_rules.proofs.Words.{is_clear, ◌≡◌, ◌&&◌, arith, common_steps}
use Rattle.chess_rules.specs.Attacks as spec
use Rattle.chess_rules.proofs.moves.StepsByCode.{attacks_by_code, pawn_attacks}
use Rattle.chess_rules.proofs.sets.SetsToSquares.{at_place}
use Rattle.chess_rules.proofs.attack.attacks_from.Goals as goal
use Rattle.chess_rules.proofs.attack.attacks_from.Goals.{After-has-2}

pub returns-then-code-eq-PAWN_CODE : goal.returns-then-code-eq-PAWN_CODE
returns-then-code-eq-PAWN_CODE c = grind (arith, common_steps, at_place, pawn_attacks)

-- another piece reaches the target, and the way is clear
by_code : (o : After-has-2) → spec.attacks o.args.board.now o.args.from o.args.target ≡ (o.has-2.result && is_clear o.args.board.now o.args.from o.args.target)
by_code o = grind (arith, common_steps, attacks_by_code, at_place)

pub returns-then-has : goal.returns-then-has
returns-then-has c = grind (arith, common_steps, by_code)

pub returns-else-has : goal.returns-else-has
returns-else-has c = grind (arith, common_steps, by_code)
